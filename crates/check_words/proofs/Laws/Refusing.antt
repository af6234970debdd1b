-- From the first word that is no number, and the first that is too far, to what the table of refusals says.
use Rattle.std.specs.Prelude.{Some, None}
use Rattle.std.specs.List.{position}
use mathlib.Core.Path.{◌≡◌}
use mathlib.Core.Bool.{true, false, not}
use mathlib.Core.List.{List}
use Prim.Native.Nat.{ℕ}
use lib.ListN.{length}
use borrow.Author.Tests.{not-true}
use Rattle.base_answers.specs.Answers.{NotFinite, TooFar}
use Rattle.base_answers.specs.declared.Answer.TheVariants.{Done}
use Rattle.surface_rules.specs.Smallest.{least, any}
use Rattle.surface_rules.specs.Refusals.{not_finite, too_far, off_grid, word_refusal}
use Rattle.surface_rules.proofs.Laws.Tests.{either_false}
use Rattle.surface_rules.proofs.Laws.Smallest.{any_never, never_least}
use Rattle.surface_rules.proofs.Laws.Positions.{position_least}
use Rattle.check_words.specs.Workings.Single.{no_number, beyond}

-- the library's searches by the tests of `Refusals`
pub first_missing : (words : List ℕ) → position no_number words ≡ least (not_finite words) (length words)
unfolding not_finite
first_missing words = position_least no_number words

pub first_beyond : (pitch : ℕ) (words : List ℕ) → position (beyond pitch) words ≡ least (too_far pitch words) (length words)
unfolding too_far
first_beyond pitch words = position_least (beyond pitch) words

module _ (pitch : ℕ) (words : List ℕ) where
  pub number_refused : (i : ℕ) → least (not_finite words) (length words) ≡ Some i → NotFinite i ≡ word_refusal pitch words
  unfolding word_refusal
  number_refused i e = rw e

  pub far_refused : (i : ℕ) → least (not_finite words) (length words) ≡ None → least (too_far pitch words) (length words) ≡ Some i → TooFar i ≡ word_refusal pitch words
  unfolding word_refusal
  far_refused i e f = rw (e, f)

  pub words_done : least (not_finite words) (length words) ≡ None → least (too_far pitch words) (length words) ≡ None → Done ≡ word_refusal pitch words
  unfolding word_refusal
  words_done e f = rw (e, f)

  on_grid : (k : ℕ) → off_grid pitch words k ≡ false → (not_finite words k ≡ false) × (too_far pitch words k ≡ false)
  unfolding off_grid
  on_grid k e = either_false (not_finite words k) (too_far pitch words k) e

  -- a pass that met nothing off the grid met neither of the two
  pub pass_done : not (any (least (off_grid pitch words) (length words))) ≡ true → Done ≡ word_refusal pitch words
  pass_done e =
      let never = any_never (off_grid pitch words) (length words) (not-true _ e) in
      words_done (never_least (not_finite words) (length words) (λ k l. (on_grid k (never k l)).0)) (never_least (too_far pitch words) (length words) (λ k l. (on_grid k (never k l)).1))
