-- Each triangle's seat is added to the rows.
use Rattle.judge_match.proofs.Laws.Collects.{Collecting}
use Rattle.judge_match.proofs.collect.Given as goal

abbrev pub invariant-loop-t : goal.invariant-loop-t
invariant-loop-t l = Collecting l.set l.stamps l.base l.initial.has l.t l.has
