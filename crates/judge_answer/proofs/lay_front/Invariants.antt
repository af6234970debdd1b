-- `lay_front` lays number after number.
use Rattle.judge_answer.proofs.Laws.Fronts.{Laying}
use Rattle.judge_answer.proofs.lay_front.Given as goal

abbrev pub invariant-loop-i : goal.invariant-loop-i
invariant-loop-i l = Laying l.from l.n l.initial.buffer l.i l.buffer
