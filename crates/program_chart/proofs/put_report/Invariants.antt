-- `put_report`: the answer's line, and behind it the lines left, laid over the present buffer, give the whole.
use Prim.Native.Nat.{◌-◌}
use Rattle.text_digits.proofs.Laws.Laying.{Laying}
use Rattle.program_chart.specs.Workings.Put.{lines_from}
use Rattle.program_chart.proofs.put_report.Given as goal

abbrev pub invariant-loop-i : goal.invariant-loop-i
invariant-loop-i l = Laying (lines_from l.report 0 l.entries) l.initial.place l.initial.out (lines_from l.report l.i (l.entries - l.i)) l.place l.out
