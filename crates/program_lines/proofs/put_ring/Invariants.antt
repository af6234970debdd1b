-- `put_ring`: the vertices left, laid over the present buffer, give the line.
use lib.ListN.{drop}
use Rattle.program_lines.specs.Lines.{line, ring=}
use Rattle.program_lines.proofs.Laws.Lines.{Lining}
use Rattle.program_lines.proofs.put_ring.Given as goal

abbrev pub invariant-loop-i : goal.invariant-loop-i
invariant-loop-i l = Lining (line ring= l.ring) l.at l.fn.out (drop l.i l.ring) l.place l.out
