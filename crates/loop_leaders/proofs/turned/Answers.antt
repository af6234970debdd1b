-- `turned` goes where the table leads, each time one turn nearer to the open edge.
use Rattle.loop_leaders.proofs.Laws.Jumps.{jumps_begin, jumps_below, jumps_more, jumps_end, jumps_less}
use Rattle.loop_leaders.proofs.turned.Goals as goal

pub loop-e-init : goal.loop-e-init
loop-e-init c = let j = jumps_begin _ _ in (j, jumps_below _ _ _ j c.requires)

pub loop-e-smaller : goal.loop-e-smaller
loop-e-smaller c = search jumps_less

pub loop-e-preserved : goal.loop-e-preserved
loop-e-preserved c = let j = jumps_more _ _ _ c.loop-e.invariant.0 c.loop-e-test.true in (j, jumps_below _ _ _ j c.requires)

pub returns : goal.returns
returns c = search jumps_end
