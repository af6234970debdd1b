-- Loops of three, long ones and rims, one after the other.
use mathlib.Core.Path.{◌≡◌, sym, ◌∙◌}
use mathlib.Core.Bool.{Bool, true, false}
use mathlib.Core.Logic.{inl, ⊎_elim}
use mathlib.Core.List.{List}
use Prim.Native.Nat.{ℕ, ◌≤◌, ◌<◌}
use native.Mathlib.Nat.{le_trans}
use native.Mathlib.Omega.{arith}
use lib.Dec.{ltb}
use borrow.Author.Tests.{ltb-true, ltb-false}
use Rattle.base_limits.specs.Limits as limits
use Rattle.fill_scratch.specs.Workings.Rings.{AtSight, Within}

-- what the test of a loop of n edges says
module _ {n length : ℕ} {t : Bool} (edges : length ≡ n) (test : t ≡ ltb limits.longest length) where
  pub told_long : t ≡ true → limits.longest < n
  told_long e = omega (arith, edges, ltb-true limits.longest length (sym test ∙ e))

  pub told_short : t ≡ false → n ≤ limits.longest
  told_short e = omega (arith, edges, ltb-false limits.longest length (sym test ∙ e))

-- with three edges at most all are settled at sight
pub within_three : (most : ℕ) (lengths marks : List ℕ) → Within most lengths marks → most ≤ 3 → AtSight lengths marks
within_three most lengths marks w few l h = ⊎_elim (λ s. s) (λ m. inl (le_trans m few)) (w l h)
