-- What is printed for a text: "reads a text from standard input and prints it written again, or an answer line".
use Rattle.std.specs.Prelude.{◌≡◌, cond, List, ℕ, ◌/◌, length, take}
use Rattle.base_answers.specs.Numbers.{refusing}
use Rattle.base_answers.specs.Answers.{Unnamed, Line}
use Rattle.base_answers.specs.declared.Answer.TheVariants.{Done}
use Rattle.surface_rules.specs.Buffers.{over}
use Rattle.surface_rules.specs.Refusals.{unnamed_refusal}
use Rattle.text_rules.specs.Text.{TextOf}
use Rattle.text_rules.specs.Fault.{Fault}
use Rattle.text_rules.specs.Room.{ReadInto}
use Rattle.text_sheet.specs.Sheet.{Sheet, sheet, words_said, corners_said}
use Rattle.text_write.specs.Outcome.{WriteOutcome}
use Rattle.program_lines.specs.Lines.{answer_line}

-- A sheet's text is printed as it is, unless a corner names no point; a text with a fault is answered with the fault's line.
pub record Rewrites (bytes out : List ℕ) : Type 0 where
  pub of_sheet : (s : Sheet) → TextOf sheet bytes s → unnamed_refusal (corners_said s) (length (words_said s) / 3) ≡ Done → out ≡ bytes
  pub of_unnamed : (s : Sheet) (i : ℕ) → TextOf sheet bytes s → unnamed_refusal (corners_said s) (length (words_said s) / 3) ≡ Unnamed i → out ≡ answer_line (Unnamed i)
  pub of_fault : (line : ℕ) → Fault sheet bytes line → out ≡ answer_line (Line line)

-- What is printed for the input that n bytes of the room are of, whichever that is, lies over the room's start, and r is how many bytes it has.
pub record RewritesIn (room : List ℕ) (n r : ℕ) (room' : List ℕ) : Type 0 where
  pub out : List ℕ
  pub due : (input : List ℕ) → ReadInto room n input → Rewrites input out
  pub many : r ≡ length out
  pub lies : room' ≡ over out room

-- what is printed once a sheet was written or refused: it serves the code, no promise needs it
unfoldable pub printed : WriteOutcome → List ℕ
printed o = cond (refusing o.answer) (answer_line o.answer) (take o.count o.bytes)
