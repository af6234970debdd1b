-- A coordinate divided by a pitch and kept to 53 digits is rounded twice without harm: what tells it from the middle between two multiples
-- is a whole number of its own last place, and the parts that are kept are far smaller.
use mathlib.Core.Path.{◌≡◌, sym, ap, ◌∙◌, subst}
use Prim.Native.Nat.{ℕ, suc, ◌+◌, ◌-◌, ◌*◌, ◌^◌, ◌≤◌, ◌<◌}
use native.Mathlib.Nat.{le_trans, le_of_eq, lt_of_lt_of_le, lt_of_le_of_lt, mul_assoc, mul_comm, mul_left_comm, mul-pos, add-mul, suc-mul, pow-suc, mul-le-mul_right, mul-lt-mul_of_pos_right, lt_of_mul-lt-mul_right}
use native.Mathlib.Omega.{arith}
use lib.Dec.{lit<}
use lib.Pow.{pow-add, pow_pos, pow_mono}
use lib.Ieee.Nearest.{closest}
use Rattle.grid_coordinate.specs.Units.{one}
use Rattle.grid_place.proofs.Laws.Twice.{closest_twice}

-- two multiples of u that are not equal lie u apart, and that is more than d in parts of 1 / S
module _ (a b u S d : ℕ) (U : 0 < u) (far : d < u * S) where
  gap : (x y : ℕ) → x ≡ a * u → y ≡ b * u → x < y → x * S + d < y * S
  gap x y e f h =
      let l : a < b = lt_of_mul-lt-mul_right u (subst (λ (n : ℕ). n < b * u) e (subst (λ (n : ℕ). x < n) f h)) in
      let m : suc a * u ≤ b * u = mul-le-mul_right u l in
      let n : x + u ≤ y = omega (arith, m, suc-mul a u, e, f) in
      let o : (x + u) * S ≤ y * S = mul-le-mul_right S n in
      omega (arith, o, add-mul x u S, far)

module _ (g z p s : ℕ) (low : z ≤ 147) (some : 0 < p) (most : p ≤ 10) (fine : 153 ≤ z + s) where
  abbrev n : ℕ
  n = g * 2 ^ z

  abbrev d : ℕ
  d = p * one

  -- the size of a last place, doubled
  abbrev u : ℕ
  u = 2 ^ suc z

  twice_is : 2 * n ≡ g * u
  twice_is = mul_left_comm 2 g (2 ^ z) ∙ ap (λ (x : ℕ). g * x) (mul_comm 2 (2 ^ z) ∙ sym (pow-suc 2 z))

  one_is : one ≡ 2 ^ (148 - z) * u
  one_is = let e : 149 ≡ 148 - z + suc z = omega arith in ap (λ (x : ℕ). 2 ^ x) e ∙ pow-add 2 (148 - z) (suc z)

  odd_is : (h : ℕ) → h * d ≡ h * (p * 2 ^ (148 - z)) * u
  odd_is h = ap (λ (x : ℕ). h * (p * x)) one_is ∙ ap (λ (x : ℕ). h * x) (sym (mul_assoc p (2 ^ (148 - z)) u)) ∙ sym (mul_assoc h (p * 2 ^ (148 - z)) u)

  parts : 2 ^ suc s ≡ 2 * 2 ^ s
  parts = pow-suc 2 s ∙ mul_comm (2 ^ s) 2

  far : d < u * (2 * 2 ^ s)
  far =
      let a : d ≤ 10 * one = mul-le-mul_right one most in
      let b : 10 * one < 2 ^ 4 * one = mul-lt-mul_of_pos_right {m = 10} {n = 2 ^ 4} (lit< tt) (pow_pos 149) in
      let c : 2 ^ 4 * one ≡ 2 ^ 153 = sym (pow-add 2 4 149) in
      let e : 2 ^ 153 ≤ 2 ^ (suc z + suc s) = pow_mono {i = 153} {j = suc z + suc s} (omega (arith, fine)) in
      let f : 2 ^ (suc z + suc s) ≡ u * (2 * 2 ^ s) = pow-add 2 (suc z) (suc s) ∙ ap (λ (x : ℕ). u * x) parts in
      lt_of_le_of_lt a (lt_of_lt_of_le b (le_trans (le_of_eq c) (le_trans e (le_of_eq f))))

  pub closest_parts : closest (closest (n * 2 ^ suc s) d) (2 ^ suc s) ≡ closest n d
  closest_parts =
      ap (λ (x : ℕ). closest (closest (n * x) d) x) parts
      ∙ closest_twice n d (2 ^ s) (mul-pos some (pow_pos 149)) (pow_pos s)
      (λ h o l. subst (λ (x : ℕ). x + d < h * d * (2 * 2 ^ s)) (mul_assoc 2 n (2 * 2 ^ s)) (gap g (h * (p * 2 ^ (148 - z))) u (2 * 2 ^ s) d (pow_pos (suc z)) far (2 * n) (h * d) twice_is (odd_is h) l))
      (λ h o l. subst (λ (x : ℕ). h * d * (2 * 2 ^ s) + d < x) (mul_assoc 2 n (2 * 2 ^ s)) (gap (h * (p * 2 ^ (148 - z))) g u (2 * 2 ^ s) d (pow_pos (suc z)) far (h * d) (2 * n) (odd_is h) twice_is l))
