-- A whole number is at most so far from 0 exactly when it is neither below the one bound nor above the other.
use mathlib.Core.Path.{◌≡◌, refl, sym, ◌∙◌, ap}
use mathlib.Core.Bool.{true, false, true≢false, false≢true}
use Prim.Native.Nat.{ℕ, zero, suc, ◌≤◌, ◌<◌}
use native.Mathlib.Omega.{arith}
use lib.Dec.{leb}
use lib.IntN.{ℤ, pos, negsuc, neg_ℤ, nat_abs}
use lib.Signed.{le_z}
use mir.Syntax.{w32}
use mir.Val.{SFits, to_z, of_z}
use mir.ValLaws.{to_z-of_z}
use borrow.Author.Tests.{le-leb, lt-leb, leb-true, leb-false}

not_below : (most : ℕ) (z : ℤ) → le_z (neg_ℤ (pos most)) z ≡ true → le_z z (pos most) ≡ leb (nat_abs z) most
not_below most (pos n) h = refl
not_below zero (negsuc n) h = absurd (false≢true h)
not_below (suc m) (negsuc n) h = let k : n ≤ m = leb-true n m h in sym (le-leb (suc n) (suc m) (omega arith))

too_low : (most : ℕ) (z : ℤ) → le_z (neg_ℤ (pos most)) z ≡ false → false ≡ leb (nat_abs z) most
too_low zero (pos n) h = absurd (omega (arith, leb-false 0 n h))
too_low (suc m) (pos n) h = absurd (true≢false h)
too_low zero (negsuc n) h = sym (lt-leb (suc n) 0 (omega arith))
too_low (suc m) (negsuc n) h = let k : m < n = leb-false n m h in sym (lt-leb (suc n) (suc m) (omega arith))

module _ (z : ℤ) (fits : SFits w32 z) where
  -- as the machine holds it
  pub high_side : (most : ℕ) → le_z (neg_ℤ (pos most)) (to_z w32 (of_z w32 z)) ≡ true → le_z (to_z w32 (of_z w32 z)) (pos most) ≡ leb (nat_abs z) most
  high_side most h = ap (λ (y : ℤ). le_z y (pos most)) (to_z-of_z w32 z fits) ∙ not_below most z (ap (le_z (neg_ℤ (pos most))) (sym (to_z-of_z w32 z fits)) ∙ h)

  pub low_side : (most : ℕ) → le_z (neg_ℤ (pos most)) (to_z w32 (of_z w32 z)) ≡ false → le_z (neg_ℤ (pos most)) (to_z w32 (of_z w32 z)) ≡ leb (nat_abs z) most
  low_side most h = h ∙ too_low most z (ap (le_z (neg_ℤ (pos most))) (sym (to_z-of_z w32 z fits)) ∙ h)
