-- The demand of pieces and rims: "Pieces are groups of triangles joined through shared edges. In each piece the loop with the greatest run is its
-- rim ...; among equals the first listed."
use Rattle.std.specs.Prelude.{◌≡◌, true, List, ℕ, ◌/◌, ◌<◌, ℤ, length, get_or}
use Rattle.surface_rules.specs.Edges.{is_open}
use Rattle.loop_rules.specs.Loops.{loops}
use Rattle.rim_pieces.specs.Pieces.{triangle_count, Shares, Joined, Numbered}
use Rattle.rim_pieces.specs.Computed.{piece_of, piece_numbers}
use Rattle.rim_rules.specs.Rims.{loop_at, run_at, piece_at, is_rim}

-- "groups of triangles joined through shared edges": to be joined is the least equivalence under which triangles that share an edge are together
pub record GroupsDemand (corners : List ℕ) : Type 1 where
  pub each_itself : (t : ℕ) → Joined corners t t
  pub back : (t u : ℕ) → Joined corners t u → Joined corners u t
  pub on : (t u v : ℕ) → Joined corners t u → Joined corners u v → Joined corners t v
  pub sharing : (t u : ℕ) → Shares corners t u → Joined corners t u
  pub no_more : (R : ℕ → ℕ → Type 0) → ((t : ℕ) → R t t) → ((t u v : ℕ) → R t u → R u v → R t v) → ((t u : ℕ) → Shares corners t u → R t u)
      → (t u : ℕ) → Joined corners t u → R t u

pub record PiecesDemand (grid : List ℤ) (corners : List ℕ) : Type 0 where
  -- Two triangles have one number exactly if they are joined, and numbers go from 0 on in the order of the smallest triangles; no other numbers do.
  pub numbered : Numbered corners (piece_numbers corners)
  pub no_others : (pieces : List ℕ) → Numbered corners pieces → (t : ℕ) → t < triangle_count corners → get_or pieces t 0 ≡ get_or (piece_numbers corners) t 0
  -- A loop lies in one piece, whose number is the loop's.
  pub in_one_piece : (l i j : ℕ) → l < length (loops corners) → i < length (loop_at corners l) → j < length (loop_at corners l)
      → Joined corners (get_or (loop_at corners l) i 0 / 3) (get_or (loop_at corners l) j 0 / 3)
  pub its_number : (l i : ℕ) → l < length (loops corners) → i < length (loop_at corners l) → piece_of corners (get_or (loop_at corners l) i 0 / 3) ≡ piece_at corners l
  -- Each piece that has an open edge has a rim,
  pub has_a_rim : (e : ℕ) → e < length corners → is_open corners e ≡ true
      → (r : ℕ) × (r < length (loops corners)) × (piece_at corners r ≡ piece_of corners (e / 3)) × (is_rim grid corners r ≡ true)
  -- a piece without one has none,
  pub no_rim : (t : ℕ) → ((e : ℕ) → e < length corners → is_open corners e ≡ true → piece_of corners (e / 3) ≡ piece_of corners t → ⊥)
      → (r : ℕ) → r < length (loops corners) → piece_at corners r ≡ piece_of corners t → ⊥
  -- and no piece has more than one,
  pub only_one : (l m : ℕ) → l < length (loops corners) → m < length (loops corners) → is_rim grid corners l ≡ true → is_rim grid corners m ≡ true
      → piece_at corners l ≡ piece_at corners m → l ≡ m
  -- which has the greatest run of its loops, and is the first of those that have it.
  pub greatest : (r l : ℕ) → is_rim grid corners r ≡ true → l < length (loops corners) → piece_at corners l ≡ piece_at corners r
      → (run_at grid corners r < run_at grid corners l → ⊥) × (run_at grid corners r ≡ run_at grid corners l → l < r → ⊥)
  -- A loop that is alone in its piece is its rim.
  pub alone : (l : ℕ) → ((m : ℕ) → m < length (loops corners) → piece_at corners m ≡ piece_at corners l → m ≡ l) → is_rim grid corners l ≡ true
