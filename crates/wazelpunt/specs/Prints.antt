-- The answers of printing in plain numbers, as they cross to another language.
use Rattle.std.specs.Prelude.{◌≡◌, List, ℕ}
use Rattle.base_answers.specs.Numbers.{number_of, place_of}
use Rattle.program_lines.specs.Printout.{PrintOutcome, PrintsOver}
use Rattle.wazelpunt.specs.Texts.{WriteTold, write_told}

abbrev pub printed : PrintOutcome → WriteTold
printed o = write_told (number_of o.answer) (place_of o.answer) o.count o.bytes

-- what is told is an outcome of printing what is due into a buffer that needs room for `most` bytes
pub record PrintsTold (most : ℕ) (Due : List ℕ → Type 0) (buffer : List ℕ) (t : WriteTold) : Type 0 where
  pub outcome : PrintOutcome
  pub right : PrintsOver most Due buffer outcome
  pub its_numbers : t ≡ printed outcome
