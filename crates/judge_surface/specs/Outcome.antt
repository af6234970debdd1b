-- What the checker leaves and answers: the grid and the loops, with the verdict on the set; or a refusal, and everything as it was.
use Rattle.std.specs.Prelude.{◌≡◌, Bool, true, false, List, [], ℕ, eqb, length, Result, Ok, Err}
use Rattle.base_answers.specs.Numbers.{refusing}
use Rattle.base_answers.specs.declared.Refusal.{Refusal}
use Rattle.base_answers.specs.declared.Answer.{Answer}
use Rattle.base_answers.specs.declared.Answer.TheVariants.{Refused}
use Rattle.base_answers.specs.Answers as answers
use Rattle.base_answers.specs.Answers.{States}
use Rattle.surface_rules.specs.Refusals.{refusal}
use Rattle.loop_rules.specs.Loops.{loops}
use Rattle.survey_grid.specs.Grid.{grid_of}
use Rattle.survey_rules.specs.Outcome.{Buffers, Outcome, refused, done, needs, lent}
use Rattle.rim_rules.specs.Rims.{rim_list}
use Rattle.fill_fates.specs.Course.{ring_list}
use Rattle.judge_rules.specs.Verdicts.{Verdict}
use Rattle.judge_answer.specs.declared.Judged.{Judged}

-- what is answered, with what is left
abbrev pub outcome : Result Judged Refusal → Buffers → Outcome
outcome (Ok j) b = record { answer = answers.judged j.verdict; loops = j.loops; vertices = j.vertices; left = b }
outcome (Err r) b = refused (Refused r) b

-- "The checker is lent buffers 1 to 3 and leaves the same there, whatever its verdict": what a survey leaves, with the verdict a
abbrev pub judged : Answer → ℕ → List ℕ → List ℕ → Buffers → Outcome
judged a pitch words corners b =
    let o = done pitch words corners b in
    record { answer = a; loops = o.loops; vertices = o.vertices; left = o.left }

-- 9: "state count differs from loop count", and its place is the "loop count"
abbrev pub JudgesCounted : Bool → ℕ → List ℕ → List ℕ → List ℕ → List ℕ → Buffers → Outcome → Type 0
JudgesCounted false pitch words corners states set b o = o ≡ refused (States (length (loops corners))) b
JudgesCounted true pitch words corners states set b o =
    (a : Answer) × Verdict (grid_of pitch words) corners [] 0 0 (rim_list (grid_of pitch words) corners) (ring_list corners) states set a
    × (o ≡ judged a pitch words corners b)

-- 17 and 1 to 8 come first
abbrev pub JudgesIf : Bool → Answer → ℕ → List ℕ → List ℕ → List ℕ → List ℕ → Buffers → Outcome → Type 0
JudgesIf true a pitch words corners states set b o = o ≡ refused a b
JudgesIf false a pitch words corners states set b o =
    JudgesCounted (eqb (length (loops corners)) (length states)) pitch words corners states set b o

abbrev pub Judges : ℕ → List ℕ → List ℕ → List ℕ → List ℕ → Buffers → Outcome → Type 0
Judges pitch words corners states set b o =
    let a = refusal pitch words corners (lent b) (needs words corners) in
    JudgesIf (refusing a) a pitch words corners states set b o
