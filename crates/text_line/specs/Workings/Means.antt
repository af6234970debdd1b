-- What the code that writes lines goes by: a table of digits, and a text's length by its counts. No promise needs it.
use Rattle.std.specs.Prelude.{◌≡◌, ℕ, ◌+◌, ◌*◌, ◌/◌, ◌%◌, ◌<◌, ◌≤◌, length, get_or}
use mathlib.Core.List.{List, map, flatten}
use Rattle.base_limits.specs.Limits as limits
use Rattle.text_digits.specs.Numeral.{size, decimal}
use Rattle.text_figures.specs.Workings.Tables.{four_of}

-- a table has the digits of a number that has at most four
pub record Has (fours : List ℕ) (c : ℕ) : Type 0 where
  pub short : c < 10000
  pub within : c < length fours
  pub four : get_or fours c 0 ≡ four_of c

-- counts of points and corners that a surface has
pub record Counted (n corners : ℕ) : Type 0 where
  pub few_points : n ≤ limits.points
  pub whole : corners % 3 ≡ 0
  pub few_corners : corners ≤ limits.corners

-- how long the text of that many points and of these corners is
unfoldable pub needed : ℕ → List ℕ → ℕ
needed n corners = 19 + (size n + size (length corners / 3)) + 29 * n + 5 * (length corners / 3) + length (flatten (map decimal corners))
