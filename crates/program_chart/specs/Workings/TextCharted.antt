-- The sheet of a text charted: the line of its fault, or the report alone of what it says.
use Rattle.std.specs.Prelude.{◌≡◌, List, ℕ}
use Rattle.base_answers.specs.Answers.{Line}
use Rattle.chart_surface.specs.Workings.Charting.{Alone, alone_of}
use Rattle.text_rules.specs.Text.{TextOf}
use Rattle.text_rules.specs.Fault.{Fault}
use Rattle.text_sheet.specs.Sheet.{Sheet, sheet, pitch_said, words_said, corners_said}

-- a text with a fault has its line and no entries, and the report stays
pub record ChartsText (bytes report : List ℕ) (o : Alone) : Type 0 where
  pub of_fault : (line : ℕ) → Fault sheet bytes line → o ≡ record { answer = Line line; entries = 0; report = report }
  pub of_text : (s : Sheet) → TextOf sheet bytes s → o ≡ alone_of (pitch_said s) (words_said s) (corners_said s) report
