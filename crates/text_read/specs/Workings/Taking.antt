-- What taking in a whole sheet text gives.
use Rattle.std.specs.Prelude.{◌≡◌, List, ℕ, length, Result, Ok, Err}
use Rattle.surface_rules.specs.Buffers.{over}
use Rattle.text_rules.specs.Text.{TextOf}
use Rattle.text_rules.specs.Fault.{Fault}
use Rattle.text_sheet.specs.Sheet.{Sheet, sheet, pitch_said, words_said, corners_said}
use Rattle.text_read.specs.declared.Intake.{Intake}

-- the sheet that the bytes say, by its pitch and its counts, with its words and corners over the starts of two buffers
pub record TakesWhole (bytes : List ℕ) (pitch points triangles : ℕ) (words' corners' words corners : List ℕ) : Type 0 where
  pub said : Sheet
  pub text : TextOf sheet bytes said
  pub pitch_is : pitch ≡ pitch_said said
  pub points_are : points ≡ length said.body.firsts
  pub triangles_are : triangles ≡ length said.body.seconds
  pub words_laid : words' ≡ over (words_said said) words
  pub corners_laid : corners' ≡ over (corners_said said) corners

-- or the line of their fault
abbrev pub Takes : List ℕ → Result Intake ℕ → List ℕ → List ℕ → List ℕ → List ℕ → Type 0
Takes bytes (Ok s) words' corners' words corners = TakesWhole bytes s.pitch s.points s.triangles words' corners' words corners
Takes bytes (Err line) words' corners' words corners = Fault sheet bytes line
