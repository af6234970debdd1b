-- `is_quiet` passes the eight half-edges one by one, and `all` says that those passed are quiet.
use mathlib.Core.Bool.{true}
use mathlib.Core.Path.{◌≡◌}
use Rattle.loop_leaders.specs.Workings.Leading.{Quiet}
use Rattle.loop_leaders.proofs.is_quiet.Given as goal

abbrev pub invariant-loop-i : goal.invariant-loop-i
invariant-loop-i l = l.all ≡ true → Quiet l.turns l.h l.i
