-- Whole numbers held as binary64 floats.
use Rattle.std.specs.Prelude.{◌≡◌, Bool, false, ℕ, ◌%◌, ◌^◌, T, ℤ, nat_abs, Float}
use Rattle.std.specs.Float.{binary64}
use Rattle.std.specs.Float.Ieee.{fits, of_bits, to_bits}
use Rattle.std.specs.Float.Ieee.Exact.{HasValue}
use Rattle.grid_coordinate.specs.Units.{signed}

-- the float is the whole number z; 0 may have either sign
pub record Whole (x : Float) (z : ℤ) : Type 0 where
  pub held : T (fits binary64 x)
  pub minus : Bool
  pub value : HasValue x minus (nat_abs z) 1
  pub sign : signed minus (nat_abs z) ≡ z

-- the float is the number n, and has no sign
pub record Natural (x : Float) (n : ℕ) : Type 0 where
  pub held : T (fits binary64 x)
  pub value : HasValue x false n 1

-- the float without its sign
unfoldable pub size_of : Float → Float
size_of x = of_bits binary64 (to_bits binary64 x % 2 ^ 63)
