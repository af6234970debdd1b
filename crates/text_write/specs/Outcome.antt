-- What writing a sheet text answers and leaves: 17 for a pitch that is none, "between 10 and 1"; then "writing gives 1, 2, 3 (text
-- buffer too short for this text, each corner in its own digits; number 1) and 4 ... writing [answers the count] of bytes; what lies past
-- them stays."
use Rattle.std.specs.Prelude.{cond, List, [], ◌∷◌, ℕ, ◌/◌, length, Result, Ok, Err}
use Rattle.base_answers.specs.Numbers.{refusing}
use Rattle.base_answers.specs.declared.Answer.{Answer}
use Rattle.base_answers.specs.declared.Answer.TheVariants.{Done, Refused}
use Rattle.base_answers.specs.declared.Refusal.{Refusal}
use Rattle.surface_rules.specs.Buffers.{over}
use Rattle.surface_rules.specs.Refusals.{then_check, pitch_refusal, count_refusal, buffer_refusal, unnamed_refusal}
use Rattle.text_sheet.specs.Sheet.{text}

pub record WriteOutcome : Type 0 where
  pub answer : Answer
  pub count : ℕ
  pub bytes : List ℕ

abbrev pub write_outcome : Result ℕ Refusal → List ℕ → WriteOutcome
write_outcome (Ok n) bytes = record { answer = Done; count = n; bytes = bytes }
write_outcome (Err r) bytes = record { answer = Refused r; count = 0; bytes = bytes }

unfoldable pub write_refusal : ℕ → List ℕ → List ℕ → List ℕ → Answer
write_refusal pitch words corners buffer =
    then_check (pitch_refusal pitch)
    (then_check (count_refusal (length words) (length corners))
    (then_check (buffer_refusal (length buffer ∷ []) (length (text pitch words corners) ∷ []))
    (unnamed_refusal corners (length words / 3))))

unfoldable pub writes : ℕ → List ℕ → List ℕ → List ℕ → WriteOutcome
writes pitch words corners buffer =
    let a = write_refusal pitch words corners buffer in
    cond (refusing a) (record { answer = a; count = 0; bytes = buffer })
    (record { answer = Done; count = length (text pitch words corners); bytes = over (text pitch words corners) buffer })
