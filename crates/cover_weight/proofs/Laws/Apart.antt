-- The machine's difference of two coordinates of the grid is that of the whole numbers.
use mathlib.Core.Path.{◌≡◌, ap, ◌∙◌}
use Prim.Native.Nat.{◌^◌, ◌<◌}
use native.Mathlib.Nat.{lt_of_le_of_lt}
use lib.Dec.{lit<}
use lib.IntN.{ℤ, nat_abs, ◌-ℤ◌}
use mir.Syntax.{w32, w64}
use mir.Val.{SFits}
use Rattle.cover_weight.specs.Weight.{Coordinate}
use Rattle.cover_weight.proofs.Laws.Held.{held, same, fits_like}
use Rattle.cover_weight.proofs.Laws.Near.{difference_near}

pub widened : (z : ℤ) → Coordinate z → held w32 z ≡ z
widened z h = same w32 z (lt_of_le_of_lt h (lit< tt))

pub widened_fits : (z : ℤ) → Coordinate z → SFits w64 (held w32 z)
widened_fits z h = fits_like (widened z h) (lt_of_le_of_lt h (lit< tt))

wide : (z : ℤ) → Coordinate z → held w64 (held w32 z) ≡ z
wide z h = ap (held w64) (widened z h) ∙ same w64 z (lt_of_le_of_lt h (lit< tt))

module _ (b a : ℤ) (h : Coordinate b × Coordinate a) where
  apart : held w64 (held w32 b) -ℤ held w64 (held w32 a) ≡ b -ℤ a
  apart = rw (wide b h.0, wide a h.1)

  small : nat_abs (b -ℤ a) < 2 ^ 63
  small = lt_of_le_of_lt (difference_near b a h.0 h.1) (lit< tt)

  pub difference_fits : SFits w64 (held w64 (held w32 b) -ℤ held w64 (held w32 a))
  difference_fits = fits_like apart small

  pub difference_is : held w64 (held w64 (held w32 b) -ℤ held w64 (held w32 a)) ≡ b -ℤ a
  difference_is = ap (held w64) apart ∙ same w64 (b -ℤ a) small
