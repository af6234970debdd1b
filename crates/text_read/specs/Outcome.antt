-- What reading a sheet text answers and leaves: "Reading may give, in this order, 10, 3 (words 1, corners 2) and 4 ... Reading answers
-- the counts of words and corners ...; what lies past them stays"; and the pitch, which is 0 at a refusal.
use Rattle.std.specs.Prelude.{◌≡◌, cond, List, [], ◌∷◌, ℕ, ◌/◌, length, Result, Ok, Err}
use Rattle.base_answers.specs.Numbers.{refusing}
use Rattle.base_answers.specs.declared.Answer.{Answer}
use Rattle.base_answers.specs.Answers.{Line}
use Rattle.base_answers.specs.declared.Answer.TheVariants.{Done, Refused}
use Rattle.base_answers.specs.declared.Refusal.{Refusal}
use Rattle.surface_rules.specs.Buffers.{over}
use Rattle.surface_rules.specs.Refusals.{then_check, buffer_refusal, unnamed_refusal}
use Rattle.text_rules.specs.Text.{TextOf}
use Rattle.text_rules.specs.Fault.{Fault}
use Rattle.text_sheet.specs.Sheet.{Sheet, sheet, pitch_said, words_said, corners_said}
use Rattle.text_read.specs.declared.ReadSheet.{ReadSheet}

pub record ReadOutcome : Type 0 where
  pub answer : Answer
  pub pitch : ℕ
  pub word_count : ℕ
  pub corner_count : ℕ
  pub words : List ℕ
  pub corners : List ℕ

abbrev pub not_read : Answer → List ℕ → List ℕ → ReadOutcome
not_read a words corners = record { answer = a; pitch = 0; word_count = 0; corner_count = 0; words = words; corners = corners }

abbrev pub read_outcome : Result ReadSheet Refusal → List ℕ → List ℕ → ReadOutcome
read_outcome (Ok r) words corners = record { answer = Done; pitch = r.pitch; word_count = r.words; corner_count = r.corners; words = words; corners = corners }
read_outcome (Err r) words corners = not_read (Refused r) words corners

-- the words ws and corners cs of a text go into the lent buffers, if these are long enough and every corner names a point
unfoldable pub deliver : ℕ → List ℕ → List ℕ → List ℕ → List ℕ → ReadOutcome
deliver pitch ws cs words corners =
    let a = then_check (buffer_refusal (length words ∷ length corners ∷ []) (length ws ∷ length cs ∷ [])) (unnamed_refusal cs (length ws / 3)) in
    cond (refusing a) (not_read a words corners)
    (record { answer = Done; pitch = pitch; word_count = length ws; corner_count = length cs; words = over ws words; corners = over cs corners })

-- a sheet's text is delivered, and anything else is refused at the line of its fault
pub record Reads (bytes words corners : List ℕ) (o : ReadOutcome) : Type 0 where
  pub of_text : (s : Sheet) → TextOf sheet bytes s → o ≡ deliver (pitch_said s) (words_said s) (corners_said s) words corners
  pub of_fault : (line : ℕ) → Fault sheet bytes line → o ≡ not_read (Line line) words corners
