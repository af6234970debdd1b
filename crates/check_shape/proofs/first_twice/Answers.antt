-- `first_twice` looks from the start, and nothing is found before what it answers.
use mathlib.Core.Path.{sym, ap, ◌∙◌}
use Rattle.surface_rules.specs.Smallest.{least}
use Rattle.surface_rules.proofs.Laws.Smallest.{least_none, least_more, least_at}
use borrow.Author.Rules.{rules}
use Rattle.check_shape.proofs.first_twice.Goals as goal

pub loop-t-init : goal.loop-t-init
loop-t-init c = least_none _

pub returns-then-is_twice : goal.returns-then-is_twice
returns-then-is_twice c = sym (least_at _ _ _ c.loop-t.invariant (sym c.is_twice.ensures ∙ c.if-is_twice.true) (search rules))

pub loop-t-preserved : goal.loop-t-preserved
loop-t-preserved c = (least_more _ _ c.loop-t.invariant (sym c.is_twice.ensures ∙ c.if-is_twice.false))

pub returns : goal.returns
returns c = sym (ap (least _) (search rules) ∙ c.loop-t.invariant)
