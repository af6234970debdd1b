-- `skip_quiet` goes on by eight as long as they are quiet.
use Prim.Native.Nat.{◌≤◌, ◌-◌}
use Rattle.loop_leaders.specs.Workings.Leading.{Quiet}
use Rattle.loop_leaders.proofs.skip_quiet.Given as goal

abbrev pub invariant-loop-i : goal.invariant-loop-i
invariant-loop-i l = (l.h ≤ l.i) × (l.i ≤ l.n) × Quiet l.turns l.h l.i

abbrev pub decreases-loop-i : goal.decreases-loop-i
decreases-loop-i l = l.n - l.i
