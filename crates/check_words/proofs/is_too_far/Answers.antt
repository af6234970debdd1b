-- `is_too_far` goes by the answer for the word's coordinate.
use Rattle.std.proofs.Common.{sym, ap, ◌∙◌}
use Rattle.check_words.proofs.Laws.Words.{off, not_off, beyond_is}
use Rattle.check_words.proofs.is_too_far.Goals as goal

pub returns-in-TooFar : goal.returns-in-TooFar
returns-in-TooFar c = sym (beyond_is _ _ _ c.place.ensures ∙ ap off c.in-TooFar.is)

pub returns-in_default : goal.returns-in_default
returns-in_default c = sym (beyond_is _ _ _ c.place.ensures ∙ not_off _ c.in_default.not-TooFar)
