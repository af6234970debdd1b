-- What the code that writes a text goes by: a table of digits, and what was checked before anything is written. No promise needs it.
use Rattle.std.specs.Prelude.{◌≡◌, ℕ, ◌/◌, ◌<◌, ◌≤◌, length, get_or, None}
use mathlib.Core.List.{List, map, flatten}
use Rattle.base_answers.specs.declared.Answer.TheVariants.{Done}
use Rattle.surface_rules.specs.Smallest.{least}
use Rattle.surface_rules.specs.Refusals.{pitch_refusal, count_refusal, unnamed}
use Rattle.surface_rules.specs.Threes.{threes}
use Rattle.text_sheet.specs.Sheet.{points, triangles, text}
use Rattle.text_line.specs.Workings.Means.{Has}

-- a table has the digits of every number below n,
unfoldable pub Numbered : ℕ → List ℕ → Type 0
Numbered n fours = (c : ℕ) → c < n → Has fours c

-- or of every corner
unfoldable pub Serves : List ℕ → List ℕ → Type 0
Serves corners fours = (i : ℕ) → i < length corners → Has fours (get_or corners i 0)

-- the lines `p=` of some words, and the lines `t=` of some corners
abbrev pub point_lines : List ℕ → List ℕ
point_lines words = flatten (map points.show (threes words))

abbrev pub triangle_lines : List ℕ → List ℕ
triangle_lines corners = flatten (map triangles.show (threes corners))

-- what was checked before anything is written
pub record Ready (pitch : ℕ) (words corners buffer : List ℕ) : Type 0 where
  pub pitched : pitch_refusal pitch ≡ Done
  pub counts : count_refusal (length words) (length corners) ≡ Done
  pub room : length (text pitch words corners) ≤ length buffer
  pub named : least (unnamed corners (length words / 3)) (length corners) ≡ None
