-- "A finite binary32 value is a whole number of 2^-149": the division in `units` leaves nothing over.
use mathlib.Core.Path.{◌≡◌, sym, ap, ◌∙◌, subst}
use Prim.Native.Nat.{ℕ, zero, suc, ◌+◌, ◌-◌, ◌*◌, ◌/◌, ◌%◌, ◌^◌, ◌≤◌, ◌<◌}
use native.Mathlib.Nat.{lt_of_not-le, not-le_of_lt, mul_assoc, mul-one, zero-mul, mul-div_cancel}
use native.Mathlib.Omega.{arith}
use mathlib.Core.Bool.{Bool, ◌&&◌}
use lib.Dec.{T, leb, ltb, eqb, leb→le}
use lib.Pow.{pow-add, pow-lt}
use lib.IntN.{ℤ, pos, negsuc}
use lib.Ieee.{Float, fin, binary32, fits, of_bits, up, down}
use lib.Ieee.Bits.{of_bits-fits}
use lib.Ieee.Fits.{and_l, and_r, down_pos}
use Rattle.grid_coordinate.specs.Units.{one}

-- what is a multiple is divided without a rest
multiple_exact : (n q : ℕ) (e : ℤ) → n ≡ q * down e → n / down e * down e ≡ n
multiple_exact n q e h = ap (λ (x : ℕ). x / down e * down e) h ∙ ap (λ (x : ℕ). x * down e) (mul-div_cancel q (down_pos e)) ∙ sym h

-- a power of two is a multiple of each that is no greater
power_split : (k l : ℕ) → 2 ^ k ≤ 2 ^ l → 2 ^ l ≡ 2 ^ (l - k) * 2 ^ k
power_split k l h = ap (λ (x : ℕ). 2 ^ x) (rejoined (lt_of_not-le (λ (g : suc l ≤ k). not-le_of_lt (pow-lt g) h))) ∙ pow-add 2 (l - k) k
  where
    rejoined : k < suc l → l ≡ l - k + k
    rejoined g = omega arith

-- so the units of one are, of whatever lies below the point
one_exact : (n : ℕ) (e : ℤ) → down e ≤ one → n * one / down e * down e ≡ n * one
one_exact n (pos k) h = multiple_exact (n * one) (n * one) (pos k) (sym (mul-one (n * one)))
one_exact n (negsuc k) h =
    multiple_exact (n * one) (n * 2 ^ (149 - suc k)) (negsuc k) (ap (λ (x : ℕ). n * x) (power_split (suc k) 149 h) ∙ sym (mul_assoc n (2 ^ (149 - suc k)) (2 ^ suc k)))

pub units_exact : (s : Bool) (m : ℕ) (e : ℤ) → T (fits binary32 (fin s m e)) → m * up e * one / down e * down e ≡ m * up e * one
unfolding fits
units_exact s zero e f = multiple_exact (0 * up e * one) 0 e (ap (λ (x : ℕ). x * one) (zero-mul (up e)) ∙ zero-mul one ∙ sym (zero-mul (down e)))
units_exact s (suc m) e f =
    let a : Bool = eqb (suc m % 2) 1 in
    let b : Bool = ltb (suc m) (2 ^ 24) in
    let c : Bool = leb (down e) one in
    let d : Bool = ltb (suc m * up e) (2 ^ 128 * down e) in
    one_exact (suc m * up e) e (leb→le (down e) one (and_r (a && b) c (and_l (a && b && c) d f)))

-- every word holds such a number, or none that is finite
pub word_units_exact : (w : ℕ) (s : Bool) (m : ℕ) (e : ℤ) → of_bits binary32 w ≡ fin s m e → m * up e * one / down e * down e ≡ m * up e * one
word_units_exact w s m e h = units_exact s m e (subst (λ (x : Float). T (fits binary32 x)) h (of_bits-fits binary32 w))
