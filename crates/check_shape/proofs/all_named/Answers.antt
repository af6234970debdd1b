-- `all_named` keeps in `all` whether nothing was met so far.
use Rattle.surface_rules.specs.Refusals.{unnamed}
use Rattle.surface_rules.proofs.Laws.Passes.{all_none, all_more, all_end}
use borrow.Author.Rules.{rules}
use Rattle.check_shape.proofs.all_named.Goals as goal

pub loop-corner-init : goal.loop-corner-init
loop-corner-init c = all_none _

pub loop-corner-preserved : goal.loop-corner-preserved
unfolding unnamed
loop-corner-preserved c = all_more _ _ _ _ c.loop-corner.invariant (search rules)

pub returns : goal.returns
returns c = all_end _ _ _ _ c.loop-corner.invariant (search rules)
