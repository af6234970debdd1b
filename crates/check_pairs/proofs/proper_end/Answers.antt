-- `proper_end` goes by the first triangle that names a point twice.
use mathlib.Core.Path.{sym, ◌∙◌}
use native.Mathlib.Omega.{arith}
use Rattle.check_pairs.proofs.Laws.Few.{proper_all, proper_below, proper_fits}
use Rattle.check_pairs.proofs.proper_end.Goals as goal

pub overflow_mul-result : goal.overflow_mul-result
overflow_mul-result c = omega (arith, proper_fits _ c.requires _ (sym c.first_twice.ensures ∙ c.in-Some.is))

pub returns-in-Some : goal.returns-in-Some
returns-in-Some c = proper_below _ c.requires _ (sym c.first_twice.ensures ∙ c.in-Some.is)

pub returns-in-None : goal.returns-in-None
returns-in-None c = proper_all _ c.requires (sym c.first_twice.ensures ∙ c.in-None.is)
