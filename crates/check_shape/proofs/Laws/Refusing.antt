-- From the counts, and from the first buffer that is too short, to what the table of refusals says.
use Rattle.std.specs.Prelude.{Option, Some, None}
use mathlib.Core.Path.{◌≡◌, sym, ◌∙◌}
use mathlib.Core.Bool.{Bool, true, false, not}
use mathlib.Core.List.{List}
use Prim.Native.Nat.{ℕ, ◌+◌}
use lib.ListN.{length}
use borrow.Author.Tests.{not-true, not-false}
use Rattle.base_answers.specs.Answers.{Words, Corners, Buffer}
use Rattle.base_answers.specs.declared.Answer.TheVariants.{Done}
use Rattle.base_types.specs.Counts.{threes}
use Rattle.base_limits.specs.Limits as limits
use Rattle.surface_rules.specs.Smallest.{least}
use Rattle.surface_rules.specs.Refusals.{short, count_refusal, buffer_refusal}

-- ---- 1 and 2

module _ (words corners : ℕ) {w : Bool} (told : w ≡ threes limits.words words) where
  pub words_refused : not w ≡ true → Words ≡ count_refusal words corners
  unfolding count_refusal
  words_refused q = rw (sym told ∙ not-true w q)

  module _ (fine : not w ≡ false) {k : Bool} (asked : k ≡ threes limits.corners corners) where
    pub corners_refused : not k ≡ true → Corners ≡ count_refusal words corners
    unfolding count_refusal
    corners_refused q = rw (sym told ∙ not-false w fine, sym asked ∙ not-true k q)

    pub counts_done : not k ≡ false → Done ≡ count_refusal words corners
    unfolding count_refusal
    counts_done q = rw (sym told ∙ not-false w fine, sym asked ∙ not-false k q)

-- ---- 3

module _ (lent needs : List ℕ) {f : Option ℕ} (told : f ≡ least (short lent needs) (length needs)) where
  pub buffer_refused : {i : ℕ} → f ≡ Some i → Buffer (i + 1) ≡ buffer_refusal lent needs
  unfolding buffer_refusal
  buffer_refused e = rw (sym told ∙ e)

  pub buffers_done : f ≡ None → Done ≡ buffer_refusal lent needs
  unfolding buffer_refusal
  buffers_done e = rw (sym told ∙ e)
