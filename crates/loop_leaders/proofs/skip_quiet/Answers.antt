-- `skip_quiet` goes on by eight as long as they are quiet.
use borrow.Author.Rules.{rules}
use Rattle.loop_leaders.proofs.Laws.Quiets.{quiet_none, quiet_join}
use Rattle.loop_leaders.proofs.skip_quiet.Goals as goal

pub loop-i-init : goal.loop-i-init
loop-i-init c = (search rules, search rules, quiet_none _ _)

pub loop-i-preserved : goal.loop-i-preserved
loop-i-preserved c = (search rules, search rules, quiet_join _ _ _ _ c.loop-i.invariant.2 (c.is_quiet.ensures c.if-is_quiet.true))
