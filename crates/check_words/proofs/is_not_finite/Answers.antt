-- `is_not_finite` goes by the answer for the word's coordinate.
use Rattle.std.proofs.Common.{sym, ap, ◌∙◌}
use Rattle.check_words.proofs.Laws.Words.{missing, not_missing, no_number_is}
use Rattle.check_words.proofs.is_not_finite.Goals as goal

pub returns-in-NotFinite : goal.returns-in-NotFinite
returns-in-NotFinite c = sym (no_number_is 1 _ _ c.place.ensures ∙ ap missing c.in-NotFinite.is)

pub returns-in_default : goal.returns-in_default
returns-in_default c = sym (no_number_is 1 _ _ c.place.ensures ∙ not_missing _ c.in_default.not-NotFinite)
