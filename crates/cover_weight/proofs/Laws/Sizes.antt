-- Absolute values of whole numbers: of a negative, of a difference and of a product.
use mathlib.Core.Path.{◌≡◌, refl}
use mathlib.Core.Bool.{Bool, true, false, cond}
use Prim.Native.Nat.{ℕ, zero, suc, ◌+◌, ◌-◌, ◌*◌, ◌≤◌, ◌<◌}
use native.Mathlib.Omega.{arith}
use lib.Dec.{T, ltb, ltb→lt}
use lib.IntN.{ℤ, pos, negsuc, neg_ℤ, nat_abs, sub_ℕ, ◌+ℤ◌, ◌-ℤ◌, ◌*ℤ◌}

pub abs_negative : (z : ℤ) → nat_abs (neg_ℤ z) ≡ nat_abs z
abs_negative (pos zero) = refl
abs_negative (pos (suc n)) = refl
abs_negative (negsuc n) = refl

between : (a b : ℕ) → nat_abs (sub_ℕ a b) ≤ a + b
between a b = go (ltb a b) (ltb→lt a b)
  where
    go : (t : Bool) → (T t → a < b) → nat_abs (cond t (negsuc (b - suc a)) (pos (a - b))) ≤ a + b
    go true h = omega (arith, h tt)
    go false h = omega arith

pub abs_sum : (a b : ℤ) → nat_abs (a +ℤ b) ≤ nat_abs a + nat_abs b
abs_sum (pos a) (pos b) = omega arith
abs_sum (pos a) (negsuc b) = between a (suc b)
abs_sum (negsuc a) (pos b) = omega (arith, between b (suc a))
abs_sum (negsuc a) (negsuc b) = omega arith

pub abs_difference : (a b : ℤ) → nat_abs (a -ℤ b) ≤ nat_abs a + nat_abs b
abs_difference a b = omega (arith, abs_sum a (neg_ℤ b), abs_negative b)

pub abs_product : (a b : ℤ) → nat_abs (a *ℤ b) ≡ nat_abs a * nat_abs b
abs_product (pos a) (pos b) = refl
abs_product (pos a) (negsuc b) = abs_negative (pos (a * suc b))
abs_product (negsuc a) (pos b) = abs_negative (pos (suc a * b))
abs_product (negsuc a) (negsuc b) = refl
