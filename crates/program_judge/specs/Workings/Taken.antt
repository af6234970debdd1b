-- What was taken in of two texts, from a room or from elsewhere, and what is answered on it. It serves the code: the promise of an answer
-- is `Hears`, over the texts.
use Prim.{Unit}
use Rattle.std.specs.Prelude.{◌≡◌, List, ℕ, ◌+◌, ◌<◌, ◌≤◌, length, take, Result, Ok, Err}
use Rattle.base_answers.specs.declared.Refusal.{Refusal}
use Rattle.base_answers.specs.declared.Answer.{Answer}
use Rattle.base_answers.specs.Answers.{Line}
use Rattle.base_limits.specs.Limits as limits
use Rattle.surface_rules.specs.Threes.{Three, flat}
use Rattle.text_rules.specs.Text.{TextOf, both}
use Rattle.text_rules.specs.Fault.{Fault}
use Rattle.text_rules.specs.Room.{ReadInto}
use Rattle.text_sheet.specs.Sheet.{head}
use Rattle.text_read.specs.Workings.Taking.{Takes}
use Rattle.text_read.specs.declared.Intake.{Intake}
use Rattle.text_read_set.specs.Set.{set}
use Rattle.text_read_set.specs.Outcome.{set_outcome, ReadsSet}
use Rattle.text_read_set.specs.declared.ReadSet.{ReadSet}
use Rattle.program_judge.specs.Hears.{Answers, Hears}
use Rattle.program_judge.specs.declared.Hearing.{Hearing}

-- a sheet that is counted is no larger than one may be
abbrev pub Few : Result Intake ℕ → Type 0
Few (Ok s) = (s.points ≤ limits.points) × (s.triangles ≤ limits.triangles)
Few (Err line) = Unit {0}

-- as many lines as the text of a sheet has
abbrev pub lines_of : ℕ → ℕ → ℕ → ℕ
lines_of pitch points triangles = length (head pitch) + (points + triangles + 2)

-- the set that the bytes say is read behind a whole sheet, and nothing behind a wrong line
abbrev pub TakesSet : Result Intake ℕ → List ℕ → Result ReadSet Refusal → List ℕ → List ℕ → List ℕ → List ℕ → Type 0
TakesSet (Ok s) bytes r states' parts' states parts = ReadsSet bytes (lines_of s.pitch s.points s.triangles) states parts (set_outcome r states' parts')
TakesSet (Err line) bytes r states' parts' states parts = Unit {0}

-- From such bytes a sheet was taken in, and a set behind it into buffers of a set's full size; and what the buffers held before.
pub record SheetOf (bytes : List ℕ) (intake : Result Intake ℕ) (words corners : List ℕ) : Type 0 where
  pub words_before : List ℕ
  pub corners_before : List ℕ
  pub taken : Takes bytes intake words corners words_before corners_before

pub record SetOf (bytes : List ℕ) (h : Hearing) (states parts : List ℕ) : Type 0 where
  pub states_before : List ℕ
  pub parts_before : List ℕ
  pub states_full : limits.states ≤ length states_before
  pub parts_full : limits.set_corners ≤ length parts_before
  pub taken : TakesSet h.sheet bytes h.set states parts states_before parts_before

abbrev pub Somehow : Hearing → List ℕ → List ℕ → List ℕ → List ℕ → Type 0
Somehow h words corners states parts = (bytes : List ℕ) × (patches : List ℕ) × SheetOf bytes h.sheet words corners × SetOf patches h states parts

-- from the first n bytes of a room that is longer than the longest text
abbrev pub SheetIn : List ℕ → ℕ → Result Intake ℕ → List ℕ → List ℕ → Type 0
SheetIn room n intake words corners = (limits.sheet_text < length room) × SheetOf (take n room) intake words corners

abbrev pub SetIn : List ℕ → ℕ → Hearing → List ℕ → List ℕ → Type 0
SetIn room n h states parts = (limits.set_text < length room) × SetOf (take n room) h states parts

abbrev pub Taken : Result Intake ℕ → List ℕ → List ℕ → Type 0
Taken intake words corners = (room : List ℕ) × (n : ℕ) × SheetIn room n intake words corners

abbrev pub SetTaken : Hearing → List ℕ → List ℕ → Type 0
SetTaken h states parts = (room : List ℕ) × (n : ℕ) × SetIn room n h states parts

-- what is answered on the bytes, whichever they are,
unfoldable pub HearsOf : Hearing → List ℕ → List ℕ → List ℕ → List ℕ → Answer → Type 0
HearsOf h words corners states parts a = (bytes patches : List ℕ) → SheetOf bytes h.sheet words corners → SetOf patches h states parts → Hears bytes patches a

-- and on whichever inputs were read into the rooms
unfoldable pub HearsTaken : Hearing → List ℕ → List ℕ → List ℕ → List ℕ → Answer → Type 0
HearsTaken h words corners states parts a =
    (room : List ℕ) (n : ℕ) (held : List ℕ) (m : ℕ) → SheetIn room n h.sheet words corners → SetIn held m h states parts
    → (sheet patches : List ℕ) → ReadInto room n sheet → ReadInto held m patches → Hears sheet patches a

-- where the sheet has so many lines
pub record HearsSet (pitch : ℕ) (words corners patches : List ℕ) (lines : ℕ) (a : Answer) : Type 0 where
  pub of_set_fault : (line : ℕ) → Fault set patches line → a ≡ Line (lines + line)
  pub of_set : (ss : List ℕ) (us : List Three) → TextOf set patches (both ss us) → Answers pitch words corners ss (flat us) a
