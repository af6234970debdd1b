-- The grid of all words.
use Rattle.std.specs.Prelude.{List, map, ℕ, ℤ}
use Rattle.std.specs.Float.{binary32}
use Rattle.std.specs.Float.Ieee.{of_bits}
use Rattle.grid_coordinate.specs.Units.{units}
use Rattle.grid_coordinate.specs.Places.{whole}

-- the multiple of the pitch that a word goes to
unfoldable pub whole_of : ℕ → ℕ → ℤ
whole_of pitch word = whole pitch (units (of_bits binary32 word))

-- "A coordinate goes to the nearest multiple of the pitch": the grid holds the multiple itself, in plate units.
abbrev pub grid_of : ℕ → List ℕ → List ℤ
grid_of pitch words = map (whole_of pitch) words
