-- Numbers as floats: the two literals, an integer cast to a float, and a float cast back to an integer.
use mathlib.Core.Path.{◌≡◌, refl, ap, ◌∙◌, sym, subst}
use mathlib.Core.Bool.{Bool, false}
use Prim.Native.Nat.{ℕ, ◌^◌, ◌≤◌, ◌<◌}
use native.Mathlib.Nat.{le_trans, le_of_lt, lt_of_le_of_lt}
use lib.Dec.{T, lit≤}
use lib.Pow.{pow-lt}
use lib.IntN.{ℤ, pos, nat_abs}
use lib.Ieee.{Float, binary64, of_bits, of_int, in_unsigned, to_unsigned}
use lib.Ieee.Bits.{of_bits-fits}
use lib.Ieee.Back.{round_whole, unsigned_back}
use lib.Ieee.Fits.{round-fits}
use mir.Syntax.{w32}
use mir.Val.{SFits, to_z, of_z}
use mir.ValLaws.{to_z-of_z}
use Rattle.grid_coordinate.specs.Units.{signed}
use Rattle.grid_coordinate.proofs.Laws.Signs.{split, abs_signed, sfits_signed}
use Rattle.grid_floats.specs.Workings.Whole.{Whole, Natural}
use Rattle.grid_floats.proofs.Laws.Sums.{in_float_lem, whole_of_int}
use Rattle.grid_floats.proofs.Laws.Orders.{natural_same}

-- ---- the literals 0.0 and 1125899906842624.0, by their bits

pub natural_nought : Natural (of_bits binary64 0) 0
unfolding of_bits
natural_nought = record { held = of_bits-fits binary64 0; value = (refl, refl) }

pub natural_far : Natural (of_bits binary64 0x4310_0000_0000_0000) (2 ^ 50)
unfolding of_bits
natural_far = record { held = of_bits-fits binary64 0x4310_0000_0000_0000; value = (refl, refl) }

-- ---- from an integer

-- an integer of 32 bits, as the machine reads it
pub whole_of_word : (z : ℤ) → nat_abs z < 2 ^ 31 → Whole (of_int binary64 (to_z w32 (of_z w32 z))) z
whole_of_word z h = subst (λ (y : ℤ). Whole (of_int binary64 y) z) (sym (to_z-of_z w32 z (fit (split z)))) (whole_of_int z (le_trans (le_of_lt h) (lit≤ tt)))
  where
    fit : (s : Bool) × (n : ℕ) × (z ≡ signed s n) → SFits w32 z
    fit (s, n, e) = subst (SFits w32) (sym e) (sfits_signed s n (subst (λ (k : ℕ). k < 2 ^ 31) (ap nat_abs e ∙ abs_signed s n) h))

-- an integer with no sign
pub natural_of_int : (n : ℕ) → n ≤ 2 ^ 53 → Natural (of_int binary64 (pos n)) n
unfolding of_int
natural_of_int n h = record { held = round-fits binary64 false n 1; value = round_whole binary64 false n h }

-- ---- back to an integer

-- the float is what the cast from the integer gives
pub natural_int : (x : Float) (n : ℕ) → Natural x n → n ≤ 2 ^ 53 → of_int binary64 (pos n) ≡ x
natural_int x n p h = natural_same (of_int binary64 (pos n)) x n (natural_of_int n h) p

back : (w n : ℕ) → 53 < w → n ≤ 2 ^ 53 → T (in_unsigned binary64 w (of_int binary64 (pos n))) × (to_unsigned w (of_int binary64 (pos n)) ≡ n)
back w n l h = unsigned_back binary64 w n (in_float_lem (pos n) h) (lt_of_le_of_lt h (pow-lt l))

pub natural_in_unsigned : (w : ℕ) (x : Float) (n : ℕ) → 53 < w → Natural x n → n ≤ 2 ^ 53 → T (in_unsigned binary64 w x)
natural_in_unsigned w x n l p h = subst (λ (r : Float). T (in_unsigned binary64 w r)) (natural_int x n p h) (back w n l h).0

pub natural_to_unsigned : (w : ℕ) (x : Float) (n : ℕ) → 53 < w → Natural x n → n ≤ 2 ^ 53 → to_unsigned w x ≡ n
natural_to_unsigned w x n l p h = ap (to_unsigned w) (sym (natural_int x n p h)) ∙ (back w n l h).1
