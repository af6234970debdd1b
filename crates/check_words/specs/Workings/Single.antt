-- The two tests of `Refusals` at a single word.
use Rattle.std.specs.Prelude.{ℕ, Bool, not, ◌&&◌, ltb, nat_abs}
use Rattle.std.specs.Float.{binary32}
use Rattle.std.specs.Float.Ieee.{of_bits}
use Rattle.std.specs.Float.Ieee.Scale.{finite}
use Rattle.base_limits.specs.Limits.{greatest}
use Rattle.grid_coordinate.specs.Units.{units}
use Rattle.grid_coordinate.specs.Places.{whole}

abbrev pub no_number : ℕ → Bool
no_number word = not (finite (of_bits binary32 word))

abbrev pub beyond : ℕ → ℕ → Bool
beyond pitch word = let x = of_bits binary32 word in finite x && ltb greatest (nat_abs (whole pitch (units x)))
