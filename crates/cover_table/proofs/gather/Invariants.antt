-- `gather` reads the points of a ring one by one.
use Rattle.cover_table.proofs.Laws.Gathers.{Gathering}
use Rattle.cover_table.proofs.gather.Given as goal

abbrev pub invariant-loop-j : goal.invariant-loop-j
invariant-loop-j l = Gathering l.grid l.ring l.initial.px l.initial.py l.initial.pz l.j l.px l.py l.pz
