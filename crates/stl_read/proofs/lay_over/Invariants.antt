-- `lay_over` lays item after item.
use Rattle.stl_read.proofs.Laws.Copying.{Copying}
use Rattle.stl_read.proofs.lay_over.Given as goal

abbrev pub invariant-loop-i : goal.invariant-loop-i
invariant-loop-i t l = Copying l.from l.initial.buffer l.i l.buffer
