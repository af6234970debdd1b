-- `lay_patch` lists the whole loop as one stretch, if a least weight was found, and weighs what it listed; of four it knows both covers.
use native.Mathlib.Omega.{arith}
use Rattle.cover_lay.proofs.Laws.Patches.{list_room, listed_in, weigh_room, lays_some, lays_none, lays_shut, takes_table}
use Rattle.cover_lay.proofs.lay_patch.Goals as goal

pub returns-then-is_shut : goal.returns-then-is_shut
returns-then-is_shut c = lays_shut c.args.grid.now _ _ _ c.args.p c.is_shut.ensures c.if-is_shut.true

pub least_weight-requires : goal.least_weight-requires
least_weight-requires c = takes_table c.requires.loop c.if-ring-eq4.false

pub returns-in_err-least_weight : goal.returns-in_err-least_weight
returns-in_err-least_weight c = rw c.from_residual.ensures (lays_none c.requires _ c.least_weight.ensures c.in_err-least_weight.was)

pub list-requires : goal.list-requires
list-requires c = list_room c.requires _ c.least_weight.ensures c.in_ok-least_weight.was

pub slice_bounds-weigh_set-end : goal.slice_bounds-weigh_set-end
slice_bounds-weigh_set-end c = omega (arith, listed_in c.requires _ c.least_weight.ensures c.in_ok-least_weight.was c.list.ensures)

pub returns : goal.returns
returns c = lays_some c.requires _ c.least_weight.ensures c.in_ok-least_weight.was c.list.ensures c.weigh_set.ensures

-- what was listed is lent to be weighed

pub weigh_set-requires : goal.weigh_set-requires
weigh_set-requires c = weigh_room c.requires _ c.least_weight.ensures c.in_ok-least_weight.was c.list.ensures
