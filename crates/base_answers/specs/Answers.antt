-- The answers by the names that the table of refusals and verdicts gives them, and what the result of a call says.
use Rattle.std.specs.Prelude.{ℕ, Result, Ok, Err}
use Rattle.base_answers.specs.declared.Refusal.{Refusal}
use Rattle.base_answers.specs.declared.Refusal.TheVariants as refusal
use Rattle.base_answers.specs.declared.Verdict.{Verdict}
use Rattle.base_answers.specs.declared.Verdict.TheVariants as verdict
use Rattle.base_answers.specs.declared.Answer.{Answer}
use Rattle.base_answers.specs.declared.Answer.TheVariants as answer

abbrev pub Done : Answer
Done = answer.Done

abbrev pub Words : Answer
Words = answer.Refused refusal.Words

abbrev pub Corners : Answer
Corners = answer.Refused refusal.Corners

abbrev pub Buffer : ℕ → Answer
Buffer b = answer.Refused (refusal.Buffer b)

abbrev pub Unnamed : ℕ → Answer
Unnamed c = answer.Refused (refusal.Unnamed c)

abbrev pub Twice : ℕ → Answer
Twice t = answer.Refused (refusal.Twice t)

abbrev pub Repeated : ℕ → Answer
Repeated h = answer.Refused (refusal.Repeated h)

abbrev pub NotFinite : ℕ → Answer
NotFinite w = answer.Refused (refusal.NotFinite w)

abbrev pub TooFar : ℕ → Answer
TooFar w = answer.Refused (refusal.TooFar w)

abbrev pub States : ℕ → Answer
States n = answer.Refused (refusal.States n)

abbrev pub Line : ℕ → Answer
Line l = answer.Refused (refusal.Line l)

abbrev pub Misdeclared : ℕ → Answer
Misdeclared r = answer.Failed (verdict.Misdeclared r)

abbrev pub Uncovered : ℕ → Answer
Uncovered r = answer.Failed (verdict.Uncovered r)

abbrev pub Barred : ℕ → Answer
Barred r = answer.Failed (verdict.Barred r)

abbrev pub Heavy : ℕ → Answer
Heavy r = answer.Failed (verdict.Heavy r)

abbrev pub LeftOver : ℕ → Answer
LeftOver c = answer.Failed (verdict.LeftOver c)

abbrev pub Misfit : Answer
Misfit = answer.Refused refusal.Misfit

abbrev pub NoPitch : Answer
NoPitch = answer.Refused refusal.NoPitch

-- what a call says that is done or refuses
abbrev pub said : {A : Type 0} → Result A Refusal → Answer
said (Ok x) = answer.Done
said (Err r) = answer.Refused r

-- what is said of a patch set that passes or not
abbrev pub judged : Result Unit Verdict → Answer
judged (Ok x) = answer.Done
judged (Err v) = answer.Failed v
