-- The table of refusals and verdicts: the number and the place of each answer.
use Rattle.std.specs.Prelude.{ℕ, Bool, true, false}
use Rattle.base_answers.specs.declared.Refusal.{Refusal}
use Rattle.base_answers.specs.declared.Refusal.TheVariants.{Words, Corners, Buffer, Unnamed, Twice, Repeated, NotFinite, TooFar, States, Line, Misfit, NoPitch}
use Rattle.base_answers.specs.declared.Verdict.{Verdict}
use Rattle.base_answers.specs.declared.Verdict.TheVariants.{Misdeclared, Uncovered, Barred, Heavy, LeftOver}
use Rattle.base_answers.specs.declared.Answer.{Answer}
use Rattle.base_answers.specs.declared.Answer.TheVariants.{Done, Refused, Failed}

abbrev pub refusal_number : Refusal → ℕ
refusal_number Words = 1
refusal_number Corners = 2
refusal_number (Buffer b) = 3
refusal_number (Unnamed c) = 4
refusal_number (Twice t) = 5
refusal_number (Repeated h) = 6
refusal_number (NotFinite w) = 7
refusal_number (TooFar w) = 8
refusal_number (States n) = 9
refusal_number (Line l) = 10
refusal_number Misfit = 16
refusal_number NoPitch = 17

abbrev pub verdict_number : Verdict → ℕ
verdict_number (Misdeclared r) = 11
verdict_number (Uncovered r) = 12
verdict_number (Barred r) = 13
verdict_number (Heavy r) = 14
verdict_number (LeftOver c) = 15

abbrev pub number_of : Answer → ℕ
number_of Done = 0
number_of (Refused r) = refusal_number r
number_of (Failed v) = verdict_number v

abbrev pub refusal_place : Refusal → ℕ
refusal_place Words = 0
refusal_place Corners = 0
refusal_place (Buffer b) = b
refusal_place (Unnamed c) = c
refusal_place (Twice t) = t
refusal_place (Repeated h) = h
refusal_place (NotFinite w) = w
refusal_place (TooFar w) = w
refusal_place (States n) = n
refusal_place (Line l) = l
refusal_place Misfit = 0
refusal_place NoPitch = 0

abbrev pub verdict_place : Verdict → ℕ
verdict_place (Misdeclared r) = r
verdict_place (Uncovered r) = r
verdict_place (Barred r) = r
verdict_place (Heavy r) = r
verdict_place (LeftOver c) = c

abbrev pub place_of : Answer → ℕ
place_of Done = 0
place_of (Refused r) = refusal_place r
place_of (Failed v) = verdict_place v

-- a refusal leaves all buffers as they were and has zero in every count; a verdict does not
abbrev pub refusing : Answer → Bool
refusing Done = false
refusing (Refused r) = true
refusing (Failed v) = false
