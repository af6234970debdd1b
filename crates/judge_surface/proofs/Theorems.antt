-- The checker's promise has one outcome: a refusal is determined by the table, and a verdict by the first loop that has one.
use mathlib.Core.Path.{◌≡◌, refl, sym, ap, ◌∙◌}
use mathlib.Core.Bool.{Bool, true, false}
use mathlib.Core.List.{List, []}
use Prim.Native.Nat.{ℕ}
use lib.Dec.{eqb}
use lib.ListN.{length}
use Rattle.base_answers.specs.Numbers.{refusing}
use Rattle.base_answers.specs.declared.Answer.{Answer}
use Rattle.surface_rules.specs.Refusals.{refusal}
use Rattle.surface_rules.proofs.Laws.Sound.{passed, passed_sound}
use Rattle.loop_rules.specs.Loops.{loops}
use Rattle.survey_grid.specs.Grid.{grid_of}
use Rattle.survey_rules.specs.Outcome.{Buffers, Outcome, needs, lent}
use Rattle.rim_rules.specs.Rims.{rim_list}
use Rattle.fill_fates.specs.Course.{ring_list}
use Rattle.judge_rules.proofs.Theorems.{verdict_once}
use Rattle.judge_surface.specs.Outcome.{judged, JudgesCounted, JudgesIf, Judges}
use Rattle.judge_surface.proofs.Laws.Apart.{rings_apart}

pub judges_once : (pitch : ℕ) (words corners states set : List ℕ) (b : Buffers) (o p : Outcome) → Judges pitch words corners states set b o → Judges pitch words corners states set b p → o ≡ p
judges_once pitch words corners states set b o p = go (refusing a) refl
  where
    a : Answer
    a = refusal pitch words corners (lent b) (needs words corners)

    counted : (t : Bool) → refusing a ≡ false → JudgesCounted t pitch words corners states set b o → JudgesCounted t pitch words corners states set b p → o ≡ p
    counted false e x y = x ∙ sym y
    counted true e x y =
        x.2
        ∙ ap (λ (v : Answer). judged v pitch words corners b)
        (verdict_once (grid_of pitch words) corners [] 0 0 (rim_list (grid_of pitch words) corners) (ring_list corners) states set x.0 y.0
        (rings_apart corners (passed_sound pitch words corners (lent b) (needs words corners) (passed pitch words corners (lent b) (needs words corners) e))) x.1 y.1)
        ∙ sym y.2

    go : (t : Bool) → refusing a ≡ t → JudgesIf t a pitch words corners states set b o → JudgesIf t a pitch words corners states set b p → o ≡ p
    go true e x y = x ∙ sym y
    go false e x y = counted (eqb (length (loops corners)) (length states)) e x y
