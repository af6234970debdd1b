-- The pairing stops at 5 as well as at 6: where it did not stop there is neither, and where no triangle names a point twice it stopped at 6.
use Rattle.std.specs.Prelude.{None}
use mathlib.Core.Path.{◌≡◌, sym, ap, ◌∙◌}
use mathlib.Core.Bool.{Bool, false, ◌&&◌, ◌||◌, and-false, or-false}
use mathlib.Core.List.{List}
use Prim.Native.Nat.{ℕ, ◌*◌, ◌/◌, ◌%◌}
use native.Mathlib.Omega.{arith}
use lib.Dec.{eqb}
use lib.ListN.{length}
use borrow.Author.Tests.{eq-eqb}
use Rattle.surface_rules.specs.Smallest.{least}
use Rattle.surface_rules.specs.Edges.{twice, repeats}
use Rattle.surface_rules.proofs.Laws.Smallest.{least_never, never_least, least_same}
use Rattle.surface_rules.proofs.Laws.Tests.{either_false}
use Rattle.surface_twins.specs.Workings.Turns.{stops}

module _ (corners : List ℕ) (triples : length corners % 3 ≡ 0) where
  stop_parts : (h : ℕ) → stops corners h ≡ false → (repeats corners h ≡ false) × ((eqb (h % 3) 0 && twice corners (h / 3)) ≡ false)
  unfolding stops
  stop_parts h e = either_false (repeats corners h) (eqb (h % 3) 0 && twice corners (h / 3)) e

  pub no_stop_single : least (stops corners) (length corners) ≡ None → least (repeats corners) (length corners) ≡ None
  no_stop_single n = never_least (repeats corners) (length corners) (λ k l. (stop_parts k (least_never (stops corners) (length corners) n k l)).0)

  first_of : (t : ℕ) → (3 * t % 3 ≡ 0) × (3 * t / 3 ≡ t)
  first_of t = (omega arith, omega arith)

  pub no_stop_proper : least (stops corners) (length corners) ≡ None → least (twice corners) (length corners / 3) ≡ None
  no_stop_proper n =
      never_least (twice corners) (length corners / 3)
      (λ t l.
      sym (ap (λ (b : Bool). b && twice corners (3 * t / 3)) (eq-eqb (3 * t % 3) 0 (first_of t).0) ∙ ap (twice corners) (first_of t).1)
      ∙ (stop_parts (3 * t) (least_never (stops corners) (length corners) n (3 * t) (omega arith))).1)

  pub stop_single : least (twice corners) (length corners / 3) ≡ None → least (stops corners) (length corners) ≡ least (repeats corners) (length corners)
  unfolding stops
  stop_single p =
      least_same (stops corners) (repeats corners) (length corners)
      (λ k l.
      ap (λ (b : Bool). repeats corners k || (eqb (k % 3) 0 && b)) (least_never (twice corners) (length corners / 3) p (k / 3) (omega arith))
      ∙ ap (λ (b : Bool). repeats corners k || b) (and-false (eqb (k % 3) 0))
      ∙ or-false (repeats corners k))
