-- The patcher's promise has one outcome: a refusal is determined by the table, and the course by the covers.
use mathlib.Core.Path.{◌≡◌, sym, ap, ◌∙◌}
use mathlib.Core.Bool.{Bool, true, false}
use mathlib.Core.List.{List, []}
use Prim.Native.Nat.{ℕ}
use Rattle.base_answers.specs.Numbers.{refusing}
use Rattle.base_answers.specs.declared.Answer.{Answer}
use Rattle.surface_rules.specs.Refusals.{refusal}
use Rattle.survey_grid.specs.Grid.{grid_of}
use Rattle.rim_rules.specs.Rims.{rim_list}
use Rattle.fill_fates.specs.Fates.{Fate}
use Rattle.fill_fates.specs.Course.{ring_list}
use Rattle.fill_fates.proofs.Theorems.{course_once}
use Rattle.patch_surface.specs.Outcome.{Buffers, Outcome, done, lent, needs, PatchesIf, Patches}

pub patches_once : (pitch : ℕ) (words corners : List ℕ) (b : Buffers) (o p : Outcome) → Patches pitch words corners b o → Patches pitch words corners b p → o ≡ p
patches_once pitch words corners b o p = go (refusing a) a
  where
    a : Answer
    a = refusal pitch words corners (lent b) (needs words corners)

    go : (t : Bool) (a : Answer) → PatchesIf t a pitch words corners b o → PatchesIf t a pitch words corners b p → o ≡ p
    go true a x y = x ∙ sym y
    go false a x y = x.2 ∙ ap (λ (fs : List Fate). done pitch words corners fs b) (course_once (grid_of pitch words) corners [] (rim_list (grid_of pitch words) corners) (ring_list corners) x.0 y.0 x.1 y.1) ∙ sym y.2
