-- The answers of reading and writing texts in plain numbers, as they cross to another language.
use Rattle.std.specs.Prelude.{◌≡◌, List, ℕ}
use Rattle.base_answers.specs.Numbers.{number_of, place_of}
use Rattle.text_read.specs.Outcome.{ReadOutcome, Reads}
use Rattle.text_read_set.specs.Outcome.{SetOutcome, ReadsSet}
use Rattle.text_write.specs.Outcome.{WriteOutcome}

-- what is told of a text that is read, with what is left
pub record TextTold : Type 0 where
  pub number : ℕ
  pub place : ℕ
  pub first_count : ℕ
  pub second_count : ℕ
  pub firsts : List ℕ
  pub seconds : List ℕ

abbrev pub text_told : ℕ → ℕ → ℕ → ℕ → List ℕ → List ℕ → TextTold
text_told number place m n firsts seconds = record { number = number; place = place; first_count = m; second_count = n; firsts = firsts; seconds = seconds }

-- of a sheet text: words and corners
abbrev pub sheet_read : ReadOutcome → TextTold
sheet_read o = text_told (number_of o.answer) (place_of o.answer) o.word_count o.corner_count o.words o.corners

-- and its pitch
pub record ReadsTold (bytes words corners : List ℕ) (t : TextTold) (pitch : ℕ) : Type 0 where
  pub outcome : ReadOutcome
  pub right : Reads bytes words corners outcome
  pub its_numbers : t ≡ sheet_read outcome
  pub its_pitch : pitch ≡ outcome.pitch

-- of a set's text: states and corners
abbrev pub set_read : SetOutcome → TextTold
set_read o = text_told (number_of o.answer) (place_of o.answer) o.state_count o.corner_count o.states o.corners

pub record ReadsSetTold (bytes : List ℕ) (before : ℕ) (states corners : List ℕ) (t : TextTold) : Type 0 where
  pub outcome : SetOutcome
  pub right : ReadsSet bytes before states corners outcome
  pub its_numbers : t ≡ set_read outcome

-- what is told of a text that is written, with what is left
pub record WriteTold : Type 0 where
  pub number : ℕ
  pub place : ℕ
  pub count : ℕ
  pub bytes : List ℕ

abbrev pub write_told : ℕ → ℕ → ℕ → List ℕ → WriteTold
write_told number place count bytes = record { number = number; place = place; count = count; bytes = bytes }

abbrev pub written : WriteOutcome → WriteTold
written o = write_told (number_of o.answer) (place_of o.answer) o.count o.bytes
