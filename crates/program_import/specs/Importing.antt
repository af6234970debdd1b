-- What is printed for a file of facets: the text of its sheet, or the line of the answer that refuses it.
use Rattle.std.specs.Prelude.{◌≡◌, true, ◌⊎◌, List, ℕ, ◌+◌, ◌*◌, ◌<◌, ◌≤◌, length}
use Rattle.base_answers.specs.Numbers.{refusing}
use Rattle.base_answers.specs.declared.Answer.TheVariants.{Done}
use Rattle.surface_rules.specs.Buffers.{over}
use Rattle.surface_rules.specs.Threes.{threes}
use Rattle.text_rules.specs.Text.{TextOf}
use Rattle.text_rules.specs.Room.{ReadInto}
use Rattle.text_sheet.specs.Sheet.{sheet, sheet_of}
use Rattle.stl_facets.specs.Facets.{front, facet_bytes, facets}
use Rattle.stl_rules.specs.Reading.{points_in, corners_in, file_refusal}
use Rattle.program_lines.specs.Lines.{answer_line}

-- "The outcome is a surface as if it had come by sheet text": that text is printed, without a line of a pitch; a file that is refused is
-- answered with the line.
pub record Imports (file out : List ℕ) : Type 0 where
  pub of_sheet : file_refusal file ≡ Done → TextOf sheet out (sheet_of 1 (points_in file) (threes (corners_in file)))
  pub of_refusal : refusing (file_refusal file) ≡ true → out ≡ answer_line (file_refusal file)

-- how long a file's count says that it is
abbrev pub said : List ℕ → ℕ
said file = front + facet_bytes * facets file

-- The first n bytes of the room are the input, or as much of it as the room holds. Where the input fills the room, it is `long` bytes
-- long, or it is longer than its count says, and so is `long`.
pub record Seen (room : List ℕ) (n long : ℕ) (input : List ℕ) : Type 0 where
  pub held : ReadInto room n input
  pub counted : length room ≤ length input → (long ≡ length input) ⊎ ((said input < long) × (said input < length input))

-- What is printed for the input that is seen so, whichever that is, lies over the room's start, and r is how many bytes it has.
pub record ImportsIn (room : List ℕ) (n long r : ℕ) (room' : List ℕ) : Type 0 where
  pub out : List ℕ
  pub due : (input : List ℕ) → Seen room n long input → Imports input out
  pub many : r ≡ length out
  pub lies : room' ≡ over out room
