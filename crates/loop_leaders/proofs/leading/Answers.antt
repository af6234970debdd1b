-- `leading` goes on one by one, and those that it passed are quiet.
use Rattle.loop_leaders.proofs.Laws.Quiets.{quiet_none, quiet_more}
use Rattle.loop_leaders.proofs.leading.Goals as goal

pub loop-i-init : goal.loop-i-init
loop-i-init c = quiet_none _ _

pub loop-i-preserved : goal.loop-i-preserved
loop-i-preserved c = quiet_more _ _ _ c.loop-i.invariant c.if-turns-i-ge-OPEN.false
