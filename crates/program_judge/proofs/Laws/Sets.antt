-- From what reading the text of a set leaves to what is answered on it: the fault's line where reading refuses, and the checker's answer
-- on what was read where it does not.
use mathlib.Core.Path.{◌≡◌, refl, sym, ap, ◌∙◌}
use mathlib.Core.Bool.{true, false, true≢false}
use mathlib.Core.List.{List, [], ◌∷◌}
use Prim.Native.Nat.{ℕ, ◌≤◌}
use native.Mathlib.Omega.{arith}
use lib.ListN.{length, take}
use Rattle.base_answers.specs.Numbers.{refusing}
use Rattle.base_answers.specs.declared.Answer.{Answer}
use Rattle.base_answers.specs.declared.Answer.TheVariants.{Done}
use Rattle.base_limits.specs.Limits as limits
use Rattle.surface_rules.specs.Buffers.{over}
use Rattle.surface_rules.specs.Refusals.{buffer_refusal}
use Rattle.surface_rules.specs.Threes.{Three, flat}
use Rattle.surface_rules.proofs.Laws.Thens.{two_long}
use Rattle.surface_rules.proofs.Laws.Over.{start_of}
use Rattle.surface_rules.proofs.Laws.Threes.{flat_length}
use Rattle.text_rules.specs.Text.{TextOf, both}
use Rattle.text_read_set.specs.Set.{set}
use Rattle.text_read_set.specs.Outcome.{SetOutcome, deliver, ReadsSet}
use Rattle.program_judge.specs.Hears.{Answers}
use Rattle.program_judge.specs.Workings.Taken.{HearsSet}

-- a set whose text was read into buffers of a set's full size
abbrev read_all : List ℕ → List ℕ → List ℕ → List ℕ → SetOutcome
read_all ss cs states corners = record { answer = Done; state_count = length ss; corner_count = length cs; states = over ss states; corners = over cs corners }

module _ {patches states parts : List ℕ} {before : ℕ} {o : SetOutcome} (r : ReadsSet patches before states parts o)
    (hs : limits.states ≤ length states) (hc : limits.set_corners ≤ length parts) where
  whole : (ss : List ℕ) (us : List Three) → TextOf set patches (both ss us) → o ≡ read_all ss (flat us) states parts
  unfolding deliver
  whole ss us t =
      let e : buffer_refusal (length states ∷ length parts ∷ []) (length ss ∷ length (flat us) ∷ []) ≡ Done =
      two_long (length states) (length parts) (length ss) (length (flat us)) (omega (arith, t.says.first_few)) (omega (arith, flat_length us, t.says.second_few)) in
      r.of_text ss us t ∙ rw e

  answer_of_lem : (p : SetOutcome) → o ≡ p → o.answer ≡ p.answer
  answer_of_lem p e = ap (λ (q : SetOutcome). q.answer) e

  pub refused_hears : {pitch : ℕ} {words corners : List ℕ} → refusing o.answer ≡ true → HearsSet pitch words corners patches before o.answer
  refused_hears h =
      record {
        of_set_fault = λ line f. answer_of_lem _ (r.of_fault line f);
        of_set = λ ss us t. absurd (true≢false (sym h ∙ ap refusing (answer_of_lem _ (whole ss us t))));
      }

  pub judged_hears : {pitch : ℕ} {words corners : List ℕ} {a : Answer} → refusing o.answer ≡ false → Answers pitch words corners (take o.state_count o.states) (take o.corner_count o.corners) a
      → HearsSet pitch words corners patches before a
  judged_hears h k =
      record {
        of_set_fault = λ line f. absurd (true≢false (sym (ap refusing (answer_of_lem _ (r.of_fault line f))) ∙ h));
        of_set = λ ss us t.
            let e = whole ss us t in
            let s : take o.state_count o.states ≡ ss = ap (λ (q : SetOutcome). take q.state_count q.states) e ∙ start_of ss states (length ss) refl in
            let c : take o.corner_count o.corners ≡ flat us = ap (λ (q : SetOutcome). take q.corner_count q.corners) e ∙ start_of (flat us) parts (length (flat us)) refl in
            rw (s, c) at k;
      }
