-- What is printed for a sheet's text by charting what it says: `answer=number,place`; if the number is 0, then `entries=` and for each entry of the
-- report a line `entry=kind,number`.
use Rattle.std.specs.Prelude.{◌≡◌, Bool, true, false, ℕ, length}
use mathlib.Core.List.{List, [], ◌∷◌, ◌++◌, map, flatten}
use Rattle.base_answers.specs.Numbers.{refusing}
use Rattle.base_answers.specs.declared.Answer.{Answer}
use Rattle.base_answers.specs.Answers.{Line}
use Rattle.base_answers.specs.declared.Answer.TheVariants.{Done}
use Rattle.surface_rules.specs.Buffers.{over}
use Rattle.surface_rules.specs.Refusals.{sheet_refusal}
use Rattle.survey_grid.specs.Grid.{grid_of}
use Rattle.chart_rules.specs.Report.{numbers, report_of}
use Rattle.chart_rules.specs.declared.Entry.{Entry}
use Rattle.text_rules.specs.Text.{TextOf}
use Rattle.text_rules.specs.Fault.{Fault}
use Rattle.text_rules.specs.Room.{ReadInto}
use Rattle.text_sheet.specs.Sheet.{Sheet, sheet, pitch_said, words_said, corners_said}
use Rattle.program_lines.specs.Lines.{line, answer_line, entries=, entry=}

abbrev pub entry_line : Entry → List ℕ
entry_line e = line entry= (numbers e)

-- the report of a sheet that is not refused
unfoldable pub report_text : List Entry → List ℕ
report_text entries = answer_line Done ++ (line entries= (length entries ∷ []) ++ flatten (map entry_line entries))

-- what is printed of a sheet with this pitch and these words and corners
abbrev pub text_if : Bool → Answer → ℕ → List ℕ → List ℕ → List ℕ
text_if true a pitch words corners = answer_line a
text_if false a pitch words corners = report_text (report_of (grid_of pitch words) corners)

abbrev pub text_of : ℕ → List ℕ → List ℕ → List ℕ
text_of pitch words corners = let a = sheet_refusal pitch words corners in text_if (refusing a) a pitch words corners

-- what is printed of a text
pub record Prints (bytes out : List ℕ) : Type 0 where
  pub of_fault : (line : ℕ) → Fault sheet bytes line → out ≡ answer_line (Line line)
  pub of_text : (s : Sheet) → TextOf sheet bytes s → out ≡ text_of (pitch_said s) (words_said s) (corners_said s)

-- What is printed for the input that n bytes of the room are of, whichever that is, lies over the room's start, and r is how many bytes it has.
pub record PrintsIn (room : List ℕ) (n r : ℕ) (room' : List ℕ) : Type 0 where
  pub out : List ℕ
  pub due : (input : List ℕ) → ReadInto room n input → Prints input out
  pub many : r ≡ length out
  pub lies : room' ≡ over out room
