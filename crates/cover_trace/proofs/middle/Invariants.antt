-- `middle` has tried every apex before m, and no such one makes up the least weight; so the last one does.
use Rattle.cover_trace.proofs.Laws.Middles.{Seeking}
use Rattle.cover_trace.proofs.middle.Given as goal

abbrev pub invariant-loop-m : goal.invariant-loop-m
invariant-loop-m l = Seeking l.quarter l.table l.i l.k l.m
