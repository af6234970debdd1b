-- `first_short` looks from the start, and nothing is found before what it answers.
use mathlib.Core.Path.{sym, ap, ◌∙◌}
use Rattle.surface_rules.specs.Smallest.{least}
use Rattle.surface_rules.proofs.Laws.Smallest.{least_none, least_more, least_at}
use borrow.Author.Rules.{rules}
use Rattle.check_shape.proofs.first_short.Goals as goal

pub loop-i-init : goal.loop-i-init
loop-i-init c = least_none _

pub returns-then-is_short : goal.returns-then-is_short
returns-then-is_short c = sym (least_at _ _ _ c.loop-i.invariant (sym c.is_short.ensures ∙ c.if-is_short.true) (search rules))

pub loop-i-preserved : goal.loop-i-preserved
loop-i-preserved c = (least_more _ _ c.loop-i.invariant (sym c.is_short.ensures ∙ c.if-is_short.false))

pub returns : goal.returns
returns c = sym (ap (least _) (search rules) ∙ c.loop-i.invariant)
