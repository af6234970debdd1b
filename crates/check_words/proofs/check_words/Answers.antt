-- `check_words` looks for 7 in all words before it looks for 8 in any.
use Rattle.std.proofs.Common.{sym, ◌∙◌}
use Rattle.check_words.proofs.Laws.Refusing.{first_missing, first_beyond, number_refused, far_refused, words_done, pass_done}
use Rattle.check_words.proofs.check_words.Goals as goal

pub returns-then-all_on_grid : goal.returns-then-all_on_grid
returns-then-all_on_grid c = pass_done _ _ (sym c.all_on_grid.ensures ∙ c.if-all_on_grid.true)

pub returns-in-Some : goal.returns-in-Some
returns-in-Some c = number_refused _ _ _ (sym (first_missing _) ∙ sym c.first_not_finite.ensures ∙ c.in-Some.is)

pub returns-in-Some-first_too_far : goal.returns-in-Some-first_too_far
returns-in-Some-first_too_far c =
    far_refused _ _ _
    (sym (first_missing _) ∙ sym c.first_not_finite.ensures ∙ c.in_default.is)
    (sym (first_beyond _ _) ∙ sym c.first_too_far.ensures ∙ c.in-Some-first_too_far.is)

pub returns-in-None : goal.returns-in-None
returns-in-None c =
    words_done _ _
    (sym (first_missing _) ∙ sym c.first_not_finite.ensures ∙ c.in_default.is)
    (sym (first_beyond _ _) ∙ sym c.first_too_far.ensures ∙ c.in-None.is)
