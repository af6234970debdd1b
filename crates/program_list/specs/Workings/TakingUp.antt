-- The sheet of a text taken up: the line of its fault, or all checks of the patcher and the grid.
use Rattle.std.specs.Prelude.{◌≡◌, List, ℕ, ◌*◌, ◌≤◌, ℤ, length, take, Result, Ok}
use Rattle.base_answers.specs.declared.Refusal.{Refusal}
use Rattle.base_answers.specs.Answers.{Line, said}
use Rattle.base_limits.specs.Limits as limits
use Rattle.patch_surface.specs.Outcome.{Buffers}
use Rattle.patch_surface.specs.Workings.Checking.{Checks, PatchRoom}
use Rattle.text_rules.specs.Text.{TextOf}
use Rattle.text_rules.specs.Fault.{Fault}
use Rattle.text_sheet.specs.Sheet.{Sheet, sheet, pitch_said, words_said, corners_said}
use Rattle.program_list.specs.declared.Taken.{Taken}

-- how many words and corners the text says, where nothing is refused
pub record Standing (s : Sheet) (u : Taken) (corners : List ℕ) : Type 0 where
  pub words_are : u.words ≡ length (words_said s)
  pub corners_are : take u.corners corners ≡ corners_said s

-- what the checks say of what the text says, whose corners stand at the start of theirs, refused or not
pub record SaidUp (s : Sheet) (b : Buffers) (r : Result Taken Refusal) (corners turns : List ℕ) (grid' : List ℤ) : Type 0 where
  pub checks : Checks (pitch_said s) (words_said s) (corners_said s) b (said r) turns grid'
  pub corners_stand : take (length (corners_said s)) corners ≡ corners_said s
  pub standing : (u : Taken) → r ≡ Ok u → Standing s u corners

-- a text with a fault has its line, and the grid stays
pub record TakesUp (bytes : List ℕ) (b : Buffers) (r : Result Taken Refusal) (corners turns : List ℕ) (grid' : List ℤ) : Type 0 where
  pub of_fault : (line : ℕ) → Fault sheet bytes line → (said r ≡ Line line) × (grid' ≡ b.grid)
  pub of_text : (s : Sheet) → TextOf sheet bytes s → SaidUp s b r corners turns grid'

-- what was taken up can be patched
pub record Patchable (b : Buffers) (u : Taken) (corners turns : List ℕ) (grid' : List ℤ) : Type 0 where
  pub corners_inside : u.corners ≤ length corners
  pub words_in : u.words ≤ length grid'
  pub room : PatchRoom (take u.corners corners) turns (take u.words grid') b.rings b.records b.patches

-- some text was taken up; where nothing is refused, the surface that it says can be patched
pub record Took (b : Buffers) (r : Result Taken Refusal) (corners turns : List ℕ) (grid' : List ℤ) : Type 0 where
  pub bytes : List ℕ
  pub takes : TakesUp bytes b r corners turns grid'
  pub patchable : (u : Taken) → r ≡ Ok u → Patchable b u corners turns grid'

-- room for the corners of the longest sheet, and twice as much for turns
pub record UpRoom (corners turns : List ℕ) : Type 0 where
  pub corners_full : limits.corners ≤ length corners
  pub turns_full : 2 * limits.corners ≤ length turns
