-- `middle` has tried every apex before m, and no such one makes up the least weight; so the last one does.
use native.Mathlib.Omega.{arith}
use Rattle.cover_trace.proofs.Laws.Middles.{seeking_begins, seeking_more, sought, last_found}
use Rattle.cover_trace.proofs.middle.Goals as goal

pub loop-m-init : goal.loop-m-init
loop-m-init c = search seeking_begins

pub returns-then-is_way : goal.returns-then-is_way
returns-then-is_way c =
    let g = c.loop-m.invariant in
    (g.low, g.high, sought g c.is_way.ensures c.if-is_way.true)

pub loop-m-preserved : goal.loop-m-preserved
loop-m-preserved c = seeking_more (omega arith) c.loop-m.invariant c.is_way.ensures c.if-is_way.false

pub returns : goal.returns
returns c =
    let g = c.loop-m.invariant in
    (omega arith, omega arith, last_found c.requires.1 (omega arith) g)
