-- Each triangle's two parts are asked for.
use Rattle.judge_match.proofs.Laws.Closes.{Closing}
use Rattle.judge_match.proofs.closed.Given as goal

abbrev pub invariant-loop-t : goal.invariant-loop-t
invariant-loop-t l = Closing l.set l.stamps l.base l.has l.t
