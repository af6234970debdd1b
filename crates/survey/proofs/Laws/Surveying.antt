-- From the checks and the listing to what a survey answers and leaves.
use mathlib.Core.Path.{◌≡◌, refl, sym, ap, ◌∙◌, subst}
use mathlib.Core.List.{List}
use Prim.Native.Nat.{ℕ}
use lib.IntN.{ℤ}
use lib.ListN.{length}
use Rattle.std.specs.Prelude.{Ok, Err}
use Rattle.base_answers.specs.declared.Refusal.{Refusal}
use Rattle.base_answers.specs.declared.Answer.TheVariants.{Refused}
use Rattle.base_answers.specs.declared.Answer.TheVariants.{Done}
use Rattle.base_types.specs.Pitches.{pitch_of, Names}
use Rattle.base_types.specs.declared.Pitch.{Pitch}
use Rattle.surface_rules.specs.Buffers.{over}
use Rattle.surface_rules.specs.Refusals.{count_refusal, refusal}
use Rattle.surface_rules.proofs.Laws.Deciding.{pitch_decides, count_decides, content_decides}
use Rattle.loop_rules.specs.Loops.{loops}
use Rattle.loop_cut.specs.Listing.{ListsLoops}
use Rattle.loop_cut.specs.declared.Listed.{Listed}
use Rattle.survey_grid.specs.Grid.{grid_of}
use Rattle.check_surface.specs.Workings.Checks.{Checked}
use Rattle.survey_rules.specs.Outcome.{Buffers, Outcome, outcome, buffers, needs, lent, survey_of}
use Rattle.survey_rules.proofs.Laws.Known.{Suited}

module _ (pitch : ℕ) (words corners : List ℕ) (b : Buffers) where
  -- what the table says decides
  decided : {r : Refusal} → refusal pitch words corners (lent b) (needs words corners) ≡ Refused r → outcome (Err r) b ≡ survey_of pitch words corners b
  unfolding survey_of
  decided e = rw e

  pub pitch_refuse : {r : Refusal} → Names pitch (Err r) → outcome (Err r) b ≡ survey_of pitch words corners b
  pitch_refuse n = decided (pitch_decides pitch words corners (lent b) (needs words corners) n.0 ∙ ap Refused (sym n.1))

  -- what is answered at a pitch is answered at its number
  pub at_pitch : (p : Pitch) {o : Outcome} → pitch ≡ pitch_of p → o ≡ survey_of (pitch_of p) words corners b → o ≡ survey_of pitch words corners b
  at_pitch p {o} e h = subst (λ (n : ℕ). o ≡ survey_of n words corners b) (sym e) h

module _ (p : Pitch) (words corners : List ℕ) (b : Buffers) {r : Refusal} where
  pub counts_refuse : Refused r ≡ count_refusal (length words) (length corners) → outcome (Err r) b ≡ survey_of (pitch_of p) words corners b
  counts_refuse k = decided (pitch_of p) words corners b (count_decides p words corners (lent b) (needs words corners) (Refused r) k refl)

  pub content_refuse : count_refusal (length words) (length corners) ≡ Done → {table : List ℕ} → Checked (pitch_of p) words corners (lent b) (needs words corners) (Refused r) table
      → outcome (Err r) b ≡ survey_of (pitch_of p) words corners b
  content_refuse c k = decided (pitch_of p) words corners b (content_decides p words corners (lent b) (needs words corners) c (Refused r) k.said)

pub done_is : {pitch : ℕ} {words corners table : List ℕ} {grid : List ℤ} {rings lengths : List ℕ} → Suited pitch words corners table grid rings lengths
    → {at : Listed} {firsts rings' lengths' firsts' : List ℕ} {grid' : List ℤ}
    → ListsLoops corners (loops corners) rings lengths firsts at rings' lengths' firsts' → grid' ≡ over (grid_of pitch words) grid
    → outcome (Ok (record { loops = at.loops; vertices = at.vertices })) (buffers grid' rings' lengths') ≡ survey_of pitch words corners (buffers grid rings lengths)
unfolding survey_of
done_is k ls e =
    rw k.none_refused
    (λ t. record { answer = Done; loops = ls.count t; vertices = ls.vertices t; left = record { grid = e t; rings = ls.all_rings t; lengths = ls.all_lengths t } })
