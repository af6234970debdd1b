-- `print` refuses a buffer that is too short for some report; any other has room for the one that is put.
use native.Mathlib.Omega.{arith}
use Rattle.program_lines.proofs.Laws.Printing.{short_prints, long_prints}
use Rattle.program_chart.proofs.Laws.Told.{charts_told, charts_short}
use Rattle.program_chart.proofs.print.Goals as goal

pub returns-then-out-lt-REPORT : goal.returns-then-out-lt-REPORT
returns-then-out-lt-REPORT c = search short_prints

pub put_report-bytes-requires : goal.put_report-bytes-requires
put_report-bytes-requires c = record { in_bounds = omega (arith, c.if-out-lt-REPORT.false); entries_in_bounds = λ r. omega (arith, charts_short c.chart_text-charted.ensures (omega arith) r, c.if-out-lt-REPORT.false) }

pub returns : goal.returns
returns c = long_prints c.if-out-lt-REPORT.false _ (charts_told c.chart_text-charted.ensures (omega arith)) c.put_report-bytes.ensures.1 c.put_report-bytes.ensures.0
