-- What it is to share a vertex, by places: a relation to be read beside `meets` and `touches`, which compute it.
use Rattle.std.specs.Prelude.{◌≡◌, true, false, ◌⊎◌, List, ℕ, ◌<◌, ℤ, length, get_or}
use Rattle.loop_rules.specs.Loops.{loops}
use Rattle.rim_rules.specs.Rims.{piece_at, is_rim}
use Rattle.chart_rules.specs.Report.{ring_at}

-- a vertex of ring a is one of ring b
pub record Meeting (a b : List ℕ) : Type 0 where
  pub here : ℕ
  pub there : ℕ
  pub here_in : here < length a
  pub there_in : there < length b
  pub same : get_or a here 0 ≡ get_or b there 0

-- loop l "shares a vertex with its own piece's rim"
pub record Touching (grid : List ℤ) (corners : List ℕ) (l : ℕ) : Type 0 where
  pub rim : ℕ
  pub rim_in : rim < length (loops corners)
  pub is_a_rim : is_rim grid corners rim ≡ true
  pub its_piece : piece_at corners rim ≡ piece_at corners l
  pub meeting : Meeting (ring_at corners l) (ring_at corners rim)

-- "1 its rim, 2 a tide pool, 3 a lake": k is what loop l is called
abbrev pub Called : List ℤ → List ℕ → ℕ → ℕ → Type 0
Called grid corners l k =
    ((k ≡ 1) × (is_rim grid corners l ≡ true))
    ⊎ (((k ≡ 2) × (is_rim grid corners l ≡ false) × Touching grid corners l)
    ⊎ ((k ≡ 3) × (is_rim grid corners l ≡ false) × (Touching grid corners l → ⊥)))
