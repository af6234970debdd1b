-- What the searches for a shared vertex say: there is one where they find one, and nowhere else.
use mathlib.Core.Path.{◌≡◌, sym, ap₂}
use mathlib.Core.Bool.{Bool, true, ◌&&◌}
use mathlib.Core.List.{List}
use Prim.Native.Nat.{ℕ, ◌<◌}
use lib.Dec.{eqb}
use lib.IntN.{ℤ}
use lib.ListN.{length, get_or}
use borrow.Author.Tests.{eq-eqb, eqb-true}
use Rattle.surface_rules.proofs.Laws.Tests.{both_true}
use Rattle.surface_rules.proofs.Laws.Smallest.{any_index, index_any}
use Rattle.loop_rules.specs.Loops.{loops}
use Rattle.rim_rules.specs.Rims.{piece_at, is_rim}
use Rattle.chart_rules.specs.Report.{stands, meets, ring_at, touches_at, touches}
use Rattle.chart_rules.specs.Touching.{Meeting, Touching}

pub stands_says : (vertices : List ℕ) (v : ℕ) → stands vertices v ≡ true → (i : ℕ) × (i < length vertices) × (get_or vertices i 0 ≡ v)
stands_says vertices v e =
    let w = any_index (λ i. eqb (get_or vertices i 0) v) (length vertices) e in
    (w.0, w.2, eqb-true (get_or vertices w.0 0) v w.3)

pub says_stands : (vertices : List ℕ) (v i : ℕ) → i < length vertices → get_or vertices i 0 ≡ v → stands vertices v ≡ true
says_stands vertices v i h e = index_any (λ i. eqb (get_or vertices i 0) v) (length vertices) i h (eq-eqb (get_or vertices i 0) v e)

pub meets_says : (a b : List ℕ) → meets a b ≡ true → Meeting a b
meets_says a b e =
    let w = any_index (λ i. stands b (get_or a i 0)) (length a) e in
    let s = stands_says b (get_or a w.0 0) w.3 in
    record { here = w.0; there = s.0; here_in = w.2; there_in = s.1; same = sym s.2 }

pub says_meets : (a b : List ℕ) → Meeting a b → meets a b ≡ true
says_meets a b m = index_any (λ i. stands b (get_or a i 0)) (length a) m.here m.here_in (says_stands b (get_or a m.here 0) m.there m.there_in (sym m.same))

module _ (grid : List ℤ) (corners : List ℕ) (l : ℕ) where
  pub touches_says : touches grid corners l ≡ true → Touching grid corners l
  unfolding touches touches_at
  touches_says e =
      let w = any_index (touches_at grid corners l) (length (loops corners)) e in
      let a = both_true (is_rim grid corners w.0) (eqb (piece_at corners w.0) (piece_at corners l) && meets (ring_at corners l) (ring_at corners w.0)) w.3 in
      let b = both_true (eqb (piece_at corners w.0) (piece_at corners l)) (meets (ring_at corners l) (ring_at corners w.0)) a.1 in
      record {
        rim = w.0;
        rim_in = w.2;
        is_a_rim = a.0;
        its_piece = eqb-true (piece_at corners w.0) (piece_at corners l) b.0;
        meeting = meets_says (ring_at corners l) (ring_at corners w.0) b.1;
      }

  pub says_touches : Touching grid corners l → touches grid corners l ≡ true
  unfolding touches touches_at
  says_touches t =
      index_any (touches_at grid corners l) (length (loops corners)) t.rim t.rim_in
      (ap₂ (λ (x y : Bool). x && y) t.is_a_rim
      (ap₂ (λ (x y : Bool). x && y) (eq-eqb (piece_at corners t.rim) (piece_at corners l) t.its_piece) (says_meets (ring_at corners l) (ring_at corners t.rim) t.meeting)))
