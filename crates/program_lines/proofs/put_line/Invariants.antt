-- `put_line`: the numbers left, laid over the present buffer, give the line.
use lib.ListN.{drop}
use Rattle.program_lines.specs.Lines.{line}
use Rattle.program_lines.proofs.Laws.Lines.{Lining}
use Rattle.program_lines.proofs.put_line.Given as goal

abbrev pub invariant-loop-i : goal.invariant-loop-i
invariant-loop-i l = Lining (line l.key l.numbers) l.at l.fn.out (drop l.i l.numbers) l.place l.out
