-- The rows are gathered one after the other.
use Rattle.judge_match.proofs.Laws.Meets.{gathered_none, gathered_all}
use Rattle.judge_match.proofs.clash.Goals as goal

pub loop-j-init : goal.loop-j-init
loop-j-init c = gathered_none

pub returns : goal.returns
returns c = search gathered_all
