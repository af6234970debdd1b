-- What is put once a file was read.
use Rattle.std.specs.Prelude.{◌≡◌, List, ℕ, ◌/◌, ◌≤◌, length}
use Rattle.base_answers.specs.declared.Answer.TheVariants.{Done}
use Rattle.base_limits.specs.Limits as limits
use Rattle.surface_rules.specs.Buffers.{over}
use Rattle.surface_rules.specs.Refusals.{count_refusal, unnamed_refusal}
use Rattle.surface_rules.specs.Threes.{threes}
use Rattle.text_rules.specs.Text.{TextOf}
use Rattle.text_sheet.specs.Sheet.{sheet, sheet_of}

-- there is room for any text, and words and corners are a sheet's
pub record PutRoom (words corners room : List ℕ) : Type 0 where
  pub roomy : limits.sheet_text ≤ length room
  pub counted : count_refusal (length words) (length corners) ≡ Done
  pub named : unnamed_refusal corners (length words / 3) ≡ Done

-- the text lies over the room's start, and r is how many bytes it has
pub record Puts (words corners room : List ℕ) (r : ℕ) (room' : List ℕ) : Type 0 where
  pub out : List ℕ
  pub of_sheet : TextOf sheet out (sheet_of 1 (threes words) (threes corners))
  pub many : r ≡ length out
  pub lies : room' ≡ over out room
