-- Once the rim of a piece is stamped, a loop of the piece has a stamped vertex exactly if it touches the rim.
use mathlib.Core.Path.{◌≡◌, refl, sym, ap, ◌∙◌}
use mathlib.Core.Bool.{Bool, true, false}
use mathlib.Core.List.{List}
use Prim.Native.Nat.{ℕ, ◌+◌, ◌≤◌, ◌<◌}
use native.Mathlib.Omega.{arith}
use lib.IntN.{ℤ}
use lib.ListN.{length, get_or}
use borrow.Author.Tests.{eq-eqb, ne_eqb}
use Rattle.surface_rules.specs.Smallest.{any}
use Rattle.surface_rules.proofs.Laws.Smallest.{least_same}
use Rattle.cover_bars.proofs.Laws.Tests.{same_truth}
use Rattle.loop_rules.specs.Loops.{loops}
use Rattle.rim_rules.specs.Rims.{piece_at, is_rim}
use Rattle.chart_rules.specs.Report.{stands, meets, ring_at, touches}
use Rattle.chart_rules.proofs.Laws.Touches.{stands_says, meets_says, says_meets, touches_says, says_touches}
use Rattle.chart_rules.proofs.Theorems.{touching_it, it_touching}
use Rattle.chart_lay.specs.Workings.Stamping.{Stamps, has_stamp, any_stamp}
use Rattle.chart_lay.specs.Workings.Pieces.{Fresh}

module _ {ring stamps stamps' : List ℕ} {p : ℕ} (fresh : Fresh p stamps) (s : Stamps ring stamps (p + 1) stamps') where
  -- a vertex of the ring has the stamp, and any other an earlier one
  on_ring : (v : ℕ) → stands ring v ≡ true → get_or stamps' v 0 ≡ p + 1
  on_ring v e = let w = stands_says ring v e in ap (λ (x : ℕ). get_or stamps' x 0) (sym w.2) ∙ s.stamped w.0 w.1

  off_ring : (v : ℕ) → stands ring v ≡ false → get_or stamps' v 0 ≤ p
  off_ring v e = let a = s.others v e in let b = fresh v in omega arith

  has_stamp_lem : (v : ℕ) → has_stamp stamps' (p + 1) v ≡ stands ring v
  has_stamp_lem v = go (stands ring v) refl
    where
      go : (t : Bool) → stands ring v ≡ t → has_stamp stamps' (p + 1) v ≡ t
      go true e = eq-eqb _ _ (on_ring v e)
      go false e = ne_eqb _ _ (λ (q : get_or stamps' v 0 ≡ p + 1). let a = off_ring v e in omega arith)

  -- the stamps are fresh for the next piece
  pub next_fresh : Fresh (p + 1) stamps'
  next_fresh v = go (stands ring v) refl
    where
      go : (t : Bool) → stands ring v ≡ t → get_or stamps' v 0 ≤ p + 1
      go true e = let a = on_ring v e in omega arith
      go false e = let a = off_ring v e in omega arith

  any_meets : (a : List ℕ) → any_stamp a stamps' (p + 1) ≡ meets a ring
  unfolding any_stamp
  any_meets a = ap any (least_same _ _ (length a) (λ i h. has_stamp_lem (get_or a i 0)))

-- the rim of loop l's piece is m
module _ (grid : List ℤ) (corners : List ℕ) (l m : ℕ) (m_in : m < length (loops corners)) (m_rim : is_rim grid corners m ≡ true) (same : piece_at corners m ≡ piece_at corners l) where
  meets_touches : meets (ring_at corners l) (ring_at corners m) ≡ touches grid corners l
  meets_touches = same_truth _ _
      (λ e. says_touches grid corners l (it_touching grid corners l m m_in m_rim same (meets_says (ring_at corners l) (ring_at corners m) e)))
      (λ e. says_meets (ring_at corners l) (ring_at corners m) (touching_it grid corners l m m_in m_rim same (touches_says grid corners l e)))

  pub stamp_touches : {stamps stamps' : List ℕ} {p : ℕ} → Fresh p stamps → Stamps (ring_at corners m) stamps (p + 1) stamps' → any_stamp (ring_at corners l) stamps' (p + 1) ≡ touches grid corners l
  stamp_touches {stamps} {stamps'} {p} fresh s = any_meets {stamps = stamps} fresh s (ring_at corners l) ∙ meets_touches
