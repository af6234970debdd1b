-- The checker's outcome in buffers that are long enough has the answer that is promised, and there is one such answer.
use Rattle.std.specs.Prelude.{Result, Ok}
use mathlib.Core.Path.{◌≡◌, refl, sym, ap, ◌∙◌, subst}
use mathlib.Core.Bool.{Bool, true, false}
use mathlib.Core.List.{List, []}
use Prim.Native.Nat.{ℕ, ◌/◌, ◌≤◌}
use native.Mathlib.Omega.{arith}
use lib.Dec.{eqb}
use lib.ListN.{length}
use Rattle.base_answers.specs.Numbers.{refusing}
use Rattle.base_answers.specs.declared.Answer.{Answer}
use Rattle.base_answers.specs.Answers.{judged}
use Rattle.base_answers.specs.declared.Refusal.{Refusal}
use Rattle.base_answers.specs.declared.Verdict.{Verdict}
use Rattle.base_limits.specs.Limits as limits
use Rattle.surface_rules.specs.Refusals.{refusal, sheet_refusal}
use Rattle.surface_rules.proofs.Laws.Thens.{three_long}
use Rattle.surface_rules.proofs.Laws.Deciding.{buffers_pass}
use Rattle.surface_rules.proofs.Laws.Sound.{passed, passed_sound}
use Rattle.loop_rules.specs.Loops.{loops}
use Rattle.survey_grid.specs.Grid.{grid_of}
use Rattle.survey_rules.specs.Outcome.{Buffers, Outcome, needs, lent}
use Rattle.rim_rules.specs.Rims.{rim_list}
use Rattle.fill_fates.specs.Course.{ring_list}
use Rattle.judge_rules.proofs.Theorems.{verdict_once}
use Rattle.judge_answer.specs.declared.Judged.{Judged}
use Rattle.judge_surface.specs.Outcome.{outcome, JudgesCounted, JudgesIf, Judges}
use Rattle.judge_surface.proofs.Laws.Apart.{rings_apart}
use Rattle.program_judge.specs.Hears.{AnswersCounted, AnswersIf, Answers}

module _ (pitch : ℕ) (words corners states set : List ℕ) where
  module _ (b : Buffers) (o : Outcome) where
    counted : (t : Bool) → JudgesCounted t pitch words corners states set b o → AnswersCounted t pitch words corners states set o.answer
    counted false j = ap (λ (p : Outcome). p.answer) j
    counted true j = subst (AnswersCounted true pitch words corners states set) (sym (ap (λ (p : Outcome). p.answer) j.2)) j.1

    refused_or : (t : Bool) (r : Answer) → JudgesIf t r pitch words corners states set b o → AnswersIf t r pitch words corners states set o.answer
    refused_or true r j = ap (λ (p : Outcome). p.answer) j
    refused_or false r j = counted (eqb (length (loops corners)) (length states)) j

  pub answered : (b b' : Buffers) (r : Result Judged Refusal) → Judges pitch words corners states set b (outcome r b') → length words ≤ limits.words → length corners ≤ limits.corners
      → limits.words ≤ length b.grid → limits.corners ≤ length b.rings → limits.triangles ≤ length b.lengths
      → Answers pitch words corners states set (outcome r b').answer
  unfolding Answers
  answered b b' r j hw hc g ri l =
      let e : refusal pitch words corners (lent b) (needs words corners) ≡ sheet_refusal pitch words corners =
      buffers_pass pitch words corners (lent b) (needs words corners)
      (three_long (length b.grid) (length b.rings) (length b.lengths) (length words) (length corners) (length corners / 3) (omega arith) (omega arith) (omega arith)) in
      refused_or b (outcome r b') (refusing (sheet_refusal pitch words corners)) (sheet_refusal pitch words corners)
      (subst (λ (a : Answer). JudgesIf (refusing a) a pitch words corners states set b (outcome r b')) e j)

  pub answered_verdict : (b b' : Buffers) (j : Judged) {v : Result Unit Verdict} → j.verdict ≡ v → Judges pitch words corners states set b (outcome (Ok j) b') → length words ≤ limits.words → length corners ≤ limits.corners
      → limits.words ≤ length b.grid → limits.corners ≤ length b.rings → limits.triangles ≤ length b.lengths
      → Answers pitch words corners states set (judged v)
  answered_verdict b b' j e h hw hc g ri l = subst (λ (v : Result Unit Verdict). Answers pitch words corners states set (judged v)) e (answered b b' (Ok j) h hw hc g ri l)

  module _ (a b : Answer) where
    counted_once : (t : Bool) → refusing (sheet_refusal pitch words corners) ≡ false → AnswersCounted t pitch words corners states set a → AnswersCounted t pitch words corners states set b → a ≡ b
    counted_once false e x y = x ∙ sym y
    counted_once true e x y =
        verdict_once (grid_of pitch words) corners [] 0 0 (rim_list (grid_of pitch words) corners) (ring_list corners) states set a b (rings_apart corners (passed_sound pitch words corners [] [] (passed pitch words corners [] [] e))) x y

    pub answers_once : Answers pitch words corners states set a → Answers pitch words corners states set b → a ≡ b
    unfolding Answers
    answers_once = go (refusing (sheet_refusal pitch words corners)) refl
      where
        go : (t : Bool) → refusing (sheet_refusal pitch words corners) ≡ t → AnswersIf t (sheet_refusal pitch words corners) pitch words corners states set a
            → AnswersIf t (sheet_refusal pitch words corners) pitch words corners states set b → a ≡ b
        go true e x y = x ∙ sym y
        go false e x y = counted_once (eqb (length (loops corners)) (length states)) e x y
