-- The triangles' weights are added one after the other.
use mathlib.Core.Path.{◌∙◌}
use native.Mathlib.Omega.{arith}
use Rattle.std.proofs.Common.{rules}
use Rattle.cover_sum.proofs.Laws.Weighing.{weighed_none, weighed_fits, weighed_more, weighed_ends}
use Rattle.cover_sum.proofs.weigh_set.Goals as goal

pub loop-t-init : goal.loop-t-init
loop-t-init c = search (rules, weighed_none)

pub overflow_add-total : goal.overflow_add-total
overflow_add-total c = let s = c.in-Some.ensures.steps in weighed_fits c.loop-t.invariant.1 _ _ s.1.0 (s.1.1 ∙ c.loop-t.invariant.0) c.weigh_named-total.ensures c.requires

pub loop-t-preserved : goal.loop-t-preserved
loop-t-preserved c =
    let s = c.in-Some.ensures.steps in
    (s.0 ∙ c.loop-t.invariant.0, weighed_more c.loop-t.invariant.1 _ _ s.1.0 (s.1.1 ∙ c.loop-t.invariant.0) c.weigh_named-total.ensures)

pub returns : goal.returns
returns c = let s = c.in-None.ensures.steps in weighed_ends c.loop-t.invariant.1 (omega (arith, s.1.0, c.loop-t.invariant.0))
