-- `fill`: from loop to loop, there was room for each.
use Prim.Native.Nat.{◌-◌}
use Rattle.program_lines.specs.Workings.Telling.{inventory}
use Rattle.program_lines.proofs.Laws.Widths.{widest}
use Rattle.program_roll.proofs.Laws.Filling.{Filling}
use Rattle.program_roll.proofs.fill.Given as goal

abbrev pub invariant-loop-m : goal.invariant-loop-m
invariant-loop-m l = Filling widest (inventory l.rings l.records l.patches) l.loops l.initial.m l.m l.initial.out l.out

abbrev pub decreases-loop-m : goal.decreases-loop-m
decreases-loop-m l = l.loops - l.m.loops
