-- Reading the text of a patch set line by line.
use Rattle.std.specs.Prelude.{List, ℕ}
use Rattle.surface_rules.specs.Threes.{Three}
use Rattle.text_digits.specs.Workings.Reading.{Read}
use Rattle.text_rules.specs.Workings.Parse.{read_count, Parsed}
use Rattle.text_rules.specs.Workings.Parse as texts
use Rattle.text_sheet.specs.Workings.Parse.{read_triangle}
use Rattle.text_read_set.specs.Set.{s=, states, triangles}

-- one digit is what a number of at most 9 is
abbrev pub read_state : List ℕ → Read ℕ
read_state = read_count s= 9

-- a whole text
abbrev pub parse : List ℕ → Parsed ℕ Three
parse = texts.parse states triangles read_state read_triangle

-- lines `s=` have a number each
abbrev pub numbers : List ℕ → List ℕ
numbers states = states
