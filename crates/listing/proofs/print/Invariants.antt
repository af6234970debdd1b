-- `print`: from section to section there is room for the widest loop's lines, and each section has a loop more or is the last.
use Rattle.program_lines.specs.Workings.Telling.{inventory}
use Rattle.listing.proofs.Laws.Printing.{Printing, left}
use Rattle.listing.proofs.print.Given as goal

abbrev pub invariant-loop-going : goal.invariant-loop-going
invariant-loop-going g l = Printing (inventory l.rings l.records l.patches) l.loops l.initial.room l.room l.progress

abbrev pub decreases-loop-going : goal.decreases-loop-going
decreases-loop-going g l = left l.loops l.progress.loops l.going
