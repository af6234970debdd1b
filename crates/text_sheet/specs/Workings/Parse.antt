-- Reading the lines of a sheet text, and what the code's answers say of it.
use Rattle.std.specs.Prelude.{List, ℕ, ◌-◌, ◌*◌, ◌≤◌, drop, Option, Some, None, Result, Ok, Err}
use Rattle.base_limits.specs.Limits as limits
use Rattle.surface_rules.specs.Threes.{Three, three}
use Rattle.text_digits.specs.Workings.Reading.{Read, wrong, got, read_key, read_hex, read_decimal}
use Rattle.text_rules.specs.Text.{feed}
use Rattle.text_rules.specs.Workings.Parse.{after, Outline, stops, leaves, Parsed}
use Rattle.text_rules.specs.Workings.Parse as texts
use Rattle.text_sheet.specs.Sheet.{comma, p=, t=, points, triangles}

-- three numbers after a key: x reads one that ends in a comma, y one that ends the line
unfoldable pub read_row : List ℕ → (List ℕ → Read ℕ) → (List ℕ → Read ℕ) → List ℕ → Read Three
read_row key x y bytes =
    after (read_key key bytes) (λ u r. after (x r) (λ i s. after (x s) (λ j t. after (y t) (λ k rest. got (three i j k) rest))))

abbrev pub read_point : List ℕ → Read Three
read_point = read_row p= (read_hex comma) (read_hex feed)

abbrev pub read_triangle : List ℕ → Read Three
read_triangle = read_row t= (read_decimal comma (limits.points - 1)) (read_decimal feed (limits.points - 1))

-- a whole text
abbrev pub parse : List ℕ → Parsed Three Three
parse = texts.parse points triangles read_point read_triangle

-- what a line's answer, its numbers and the place after it, says of the text
abbrev pub seen_row : List ℕ → Option (ℕ × ℕ × ℕ × ℕ) → Read Three
seen_row text (Some (i, j, k, next)) = got (three i j k) (drop next text)
seen_row text None = wrong

-- the place after a line, or after some lines, is at most n
abbrev pub RowBy : ℕ → Option (ℕ × ℕ × ℕ × ℕ) → Type 0
RowBy n (Some (i, j, k, next)) = next ≤ n
RowBy n None = Unit {0}

abbrev pub PassBy : ℕ → Result ℕ ℕ → Type 0
PassBy n (Ok next) = next ≤ n
PassBy n (Err i) = Unit {0}

-- what the answer for several lines says of the text
abbrev pub passed : List ℕ → Result ℕ ℕ → Outline
passed text (Err i) = stops i
passed text (Ok next) = leaves (drop next text)

-- There is room for three numbers of each line, of at most `most` lines that can stand in a text of `long` bytes, where each takes at
-- least `size` of them.
unfoldable pub Room : ℕ → ℕ → ℕ → ℕ → Type 0
Room size most long room = (k : ℕ) → k ≤ most → size * k ≤ long → 3 * k ≤ room
