-- A number taken apart at two units: what is left below the greater has the same lower part.
use mathlib.Core.Path.{◌≡◌, ap, ◌∙◌}
use Prim.Native.Nat.{ℕ, ◌*◌, ◌/◌, ◌%◌, ◌<◌}
use native.Mathlib.Nat.{mod-lt}
use lib.Arith.{mod-mul, digits_div, digits_mod}

module _ (m n c : ℕ) (p : 0 < m) (q : 0 < c) where
  pub part_div : n % (m * c) / c ≡ n / c % m
  part_div = ap (λ (x : ℕ). x / c) (mod-mul n p q) ∙ digits_div (n / c % m) (mod-lt n q)

  pub part_mod : n % (m * c) % c ≡ n % c
  part_mod = ap (λ (x : ℕ). x % c) (mod-mul n p q) ∙ digits_mod (n / c % m) (mod-lt n q)
