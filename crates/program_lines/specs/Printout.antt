-- What a call answers and leaves that prints into a lent buffer: 3 where the buffer is shorter than what can be printed at most, and otherwise
-- what is due, from the buffer's start; what lies behind stays.
use Rattle.std.specs.Prelude.{◌≡◌, List, ℕ, ◌<◌, ◌≤◌, length, Result, Ok, Err}
use Rattle.base_answers.specs.declared.Refusal.{Refusal}
use Rattle.base_answers.specs.declared.Answer.{Answer}
use Rattle.base_answers.specs.Answers.{Buffer}
use Rattle.base_answers.specs.declared.Answer.TheVariants.{Done, Refused}
use Rattle.surface_rules.specs.Buffers.{over}

pub record PrintOutcome : Type 0 where
  pub answer : Answer
  pub count : ℕ
  pub bytes : List ℕ

-- what is answered, with what is left: how many bytes were printed, or a refusal
abbrev pub print_outcome : Result ℕ Refusal → List ℕ → PrintOutcome
print_outcome (Ok n) bytes = record { answer = Done; count = n; bytes = bytes }
print_outcome (Err r) bytes = record { answer = Refused r; count = 0; bytes = bytes }

-- these bytes were printed
abbrev pub printed_over : List ℕ → List ℕ → PrintOutcome
printed_over printed buffer = record { answer = Done; count = length printed; bytes = over printed buffer }

-- `most` is how many bytes there can be at most, and `Due` says which are due
pub record PrintsOver (most : ℕ) (Due : List ℕ → Type 0) (buffer : List ℕ) (o : PrintOutcome) : Type 0 where
  pub too_short : length buffer < most → o ≡ record { answer = Buffer 1; count = 0; bytes = buffer }
  pub long_enough : most ≤ length buffer → (printed : List ℕ) × Due printed × (o ≡ printed_over printed buffer)
