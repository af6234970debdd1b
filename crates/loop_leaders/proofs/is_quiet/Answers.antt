-- `is_quiet` passes the eight half-edges one by one, and `all` says that those passed are quiet.
use Rattle.loop_leaders.proofs.Laws.Quiets.{quiet_none, all_quiet}
use Rattle.loop_leaders.proofs.is_quiet.Goals as goal

pub loop-i-init : goal.loop-i-init
loop-i-init c t = quiet_none _ _

pub loop-i-preserved : goal.loop-i-preserved
loop-i-preserved c = all_quiet _ _ _ _ c.loop-i.invariant
