-- The size of a float: its bits without the sign's bit are those of the same number with no sign.
use mathlib.Core.Path.{◌≡◌, refl, sym, ap, ◌∙◌, subst}
use mathlib.Core.Bool.{Bool, true, false, not, cond}
use Prim.Native.Nat.{ℕ, zero, suc, ◌+◌, ◌-◌, ◌*◌, ◌/◌, ◌%◌, ◌^◌, ◌<◌}
use native.Mathlib.Nat.{zero-add, add_assoc, add-mod_left, mod-eq_of_lt}
use native.Mathlib.Omega.{arith}
use lib.Dec.{T}
use lib.IntN.{ℤ, nat_abs}
use lib.Ieee.{Float, nan, inf, fin, Format, binary64, fits, up, down, low, prec, hid, top, size, to_bits, of_bits, is_nan, nan_bits}
use lib.Ieee.Bits.{of_bits-to_bits, to_bits-lt, nan_bits_is}
use lib.Ieee.Exact.{HasValue}
use Rattle.grid_floats.specs.Workings.Whole.{Whole, Natural, size_of}

-- ---- the sign's bit

-- to fit does not depend on the sign
turned_fits : (f : Format) (s t : Bool) (m : ℕ) (e : ℤ) → T (fits f (fin s m e)) → T (fits f (fin t m e))
unfolding fits
turned_fits f s t zero e h = h
turned_fits f s t (suc m) e h = h

below_sign : (c a q : ℕ) → c + a + q < 2 * c → 0 + a + q < c
below_sign c a q h = omega arith

without_sign : (s : Bool) (c a q : ℕ) → 0 + a + q < c → (cond s c 0 + a + q) % c ≡ 0 + a + q
without_sign true c a q h =
    ap (λ (n : ℕ). n % c) (add_assoc c a q) ∙ add-mod_left c (a + q) ∙ ap (λ (n : ℕ). n % c) (ap (λ (n : ℕ). n + q) (sym (zero-add a))) ∙ mod-eq_of_lt h
without_sign false c a q h = mod-eq_of_lt h

cleared : (f : Format) (s : Bool) (m : ℕ) (e : ℤ) → T (fits f (fin s m e)) → to_bits f (fin s m e) % top f ≡ to_bits f (fin false m e)
unfolding to_bits
cleared f s m e h =
    let n = m * up e * 2 ^ low f / down e in
    let k = size n - prec f in
    without_sign s (top f) (k * hid f) (n / 2 ^ k) (below_sign (top f) (k * hid f) (n / 2 ^ k) (to_bits-lt f (fin true m e) (turned_fits f s true m e h)))

read_back : (f : Format) (s : Bool) (m : ℕ) (e : ℤ) → T (fits f (fin s m e)) → of_bits f (to_bits f (fin s m e) % top f) ≡ fin false m e
read_back f s m e h = ap (of_bits f) (cleared f s m e h) ∙ of_bits-to_bits f (fin false m e) (turned_fits f s false m e h)

-- ---- the size of a whole number

size_is : (x : Float) (s : Bool) (n : ℕ) → T (fits binary64 x) → HasValue x s n 1 → Natural (of_bits binary64 (to_bits binary64 x % 2 ^ 63)) n
size_is nan s n h v = absurd v
size_is (inf b) s n h v = absurd v
size_is (fin b m e) s n h v =
    subst (λ (r : Float). Natural r n) (sym (read_back binary64 b m e h)) (record { held = turned_fits binary64 b false m e h; value = (refl, v.1) })

pub whole_size : (x : Float) (z : ℤ) → Whole x z → Natural (size_of x) (nat_abs z)
unfolding size_of
whole_size x z p = size_is x p.minus (nat_abs z) p.held p.value

-- ---- no NaN

number : (x : Float) (s : Bool) (n : ℕ) → HasValue x s n 1 → T (not (is_nan x))
unfolding is_nan
number nan s n v = absurd v
number (inf b) s n v = absurd v
number (fin b m e) s n v = tt

-- a float that is a whole number is no NaN
pub whole_number : (x : Float) (z : ℤ) → Whole x z → T (not (is_nan x))
whole_number x z p = number x p.minus (nat_abs z) p.value

-- and neither is its pattern without the sign's bit
pub size_number : (x : Float) (z : ℤ) → Whole x z → T (not (nan_bits binary64 (to_bits binary64 x % 2 ^ 63)))
unfolding size_of
size_number x z p =
    subst (λ (b : Bool). T (not b)) (sym (nan_bits_is binary64 (to_bits binary64 x % 2 ^ 63)))
    (number (of_bits binary64 (to_bits binary64 x % 2 ^ 63)) false (nat_abs z) (whole_size x z p).value)
