-- Demand 2, of texts: "a sheet we write reads back as the same sheet, and a text we accept is the one we would write."
use Rattle.std.specs.Prelude.{◌≡◌, true, false, List, ◌++◌, ℕ, suc, ◌^◌, ◌<◌, ◌≤◌, length, get_or, take}
use Rattle.base_answers.specs.Numbers.{refusing}
use Rattle.base_answers.specs.Answers.{Line}
use Rattle.base_answers.specs.declared.Answer.TheVariants.{Done}
use Rattle.base_types.specs.Pitches.{is_pitch}
use Rattle.base_limits.specs.Limits as limits
use Rattle.surface_rules.specs.Buffers.{over}
use Rattle.text_rules.specs.Text.{TextOf, count, parts}
use Rattle.text_rules.specs.Fault.{Fault}
use Rattle.text_sheet.specs.Sheet.{pitch=, points=, points, triangles, Sheet, sheet, pitch_said}
use Rattle.text_read.specs.Outcome.{ReadOutcome, Reads}
use Rattle.text_write.specs.Outcome.{WriteOutcome, writes}
use Rattle.stl_rules.specs.Reading.{file_refusal, reads_file}
use Rattle.program_import.specs.Importing.{Imports}

-- each word has 32 bits
abbrev pub Words : List ℕ → Type 0
Words words = (i : ℕ) → i < length words → get_or words i 0 < 2 ^ 32

-- these words and corners were read, and what lies past them stays
abbrev pub read_all : ℕ → List ℕ → List ℕ → List ℕ → List ℕ → ReadOutcome
read_all pitch ws cs words corners = record { answer = Done; pitch = pitch; word_count = length ws; corner_count = length cs; words = over ws words; corners = over cs corners }

-- these bytes were written, and what lies past them stays
abbrev pub wrote_all : List ℕ → List ℕ → WriteOutcome
wrote_all bytes buffer = record { answer = Done; count = length bytes; bytes = over bytes buffer }

pub record TextsDemand : Type 0 where
  -- A sheet that we write reads back as the same sheet, whatever buffers it is read into, if they are long enough.
  pub reads_back : (pitch : ℕ) (ws cs buffer words corners : List ℕ) (o : ReadOutcome) → Words ws → (writes pitch ws cs buffer).answer ≡ Done
      → Reads (take (writes pitch ws cs buffer).count (writes pitch ws cs buffer).bytes) words corners o
      → length ws ≤ length words → length cs ≤ length corners → o ≡ read_all pitch ws cs words corners
  -- A text that we accept is the one that we would write for what was read.
  pub writes_back : (bytes words corners buffer : List ℕ) (o : ReadOutcome) → Reads bytes words corners o → o.answer ≡ Done → length bytes ≤ length buffer
      → writes o.pitch (take o.word_count o.words) (take o.corner_count o.corners) buffer ≡ wrote_all bytes buffer
  -- Two sheets with one text are equal, and "there is still one text for one sheet".
  pub one_sheet : (bytes : List ℕ) (s t : Sheet) → TextOf sheet bytes s → TextOf sheet bytes t → s ≡ t
  pub one_text : (bytes other : List ℕ) (s : Sheet) → TextOf sheet bytes s → TextOf sheet other s → bytes ≡ other
  -- "A text that begins with `points=` is pitch 1."
  pub points_pitch : (bytes : List ℕ) (s : Sheet) → TextOf sheet (points= ++ bytes) s → pitch_said s ≡ 1
  -- "With a pitch line every later line number goes up by one": a fault of what stands below the line has its number and one more.
  pub line_later : (pitch : ℕ) → is_pitch pitch ≡ true → (pitch ≡ 1 → ⊥) → (below : List ℕ) (line : ℕ)
      → Fault (parts points triangles) below line → Fault sheet (count pitch= pitch ++ below) (suc line)
  -- "In a text such a line, or `pitch=1`, is a wrong line": one of 1 or of a number that is no pitch is, whatever stands below it.
  pub wrong_pitch : (pitch : ℕ) → (is_pitch pitch ≡ true → pitch ≡ 1) → (below : List ℕ) → Fault sheet (count pitch= pitch ++ below) 1
  -- "The longest text has 47,140 bytes."
  pub longest : (bytes : List ℕ) (s : Sheet) → TextOf sheet bytes s → length bytes ≤ limits.sheet_text
  pub longest_met : (bytes : List ℕ) × (s : Sheet) × TextOf sheet bytes s × (length bytes ≡ limits.sheet_text)
  -- A line is called wrong exactly if the lines before it begin some sheet's text and, with this one, no sheet's text begins so.
  pub wrong_line_lem : (bytes words corners : List ℕ) (o : ReadOutcome) → Reads bytes words corners o → (line : ℕ) → o.answer ≡ Line line → Fault sheet bytes line
  pub line_wrong : (bytes words corners : List ℕ) (o : ReadOutcome) → Reads bytes words corners o → (line : ℕ) → Fault sheet bytes line → o.answer ≡ Line line
  -- So long a text needs no more than a byte past the longest to be answered.
  pub front_enough : (bytes : List ℕ) → limits.sheet_text < length bytes → (line : ℕ) → Fault sheet (take (suc limits.sheet_text) bytes) line → Fault sheet bytes line
  -- "The outcome is a surface as if it had come by sheet text": reading a file that neither 16, 2 nor 1 refuses leaves what reading its text leaves.
  pub as_text : (file out words corners : List ℕ) (o : ReadOutcome) → Imports file out → refusing (file_refusal file) ≡ false
      → Reads out words corners o → o ≡ reads_file file words corners
