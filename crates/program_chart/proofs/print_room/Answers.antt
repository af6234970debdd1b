-- `print_room` charts the front of the room, in which the longest text has room and so every report too.
use native.Mathlib.Omega.{arith}
use Rattle.surface_rules.proofs.Laws.Lists.{as_long}
use Rattle.program_chart.specs.Workings.Put.{put_alone}
use Rattle.program_chart.proofs.Theorems.{room_enough}
use Rattle.program_chart.proofs.Laws.Told.{charts_told, charts_short}
use Rattle.program_chart.proofs.print_room.Goals as goal

pub slice_bounds-chart_text-end-2 : goal.slice_bounds-chart_text-end-2
slice_bounds-chart_text-end-2 c = search as_long

pub put_report-requires : goal.put_report-requires
put_report-requires c = record { in_bounds = omega (arith, c.requires.0); entries_in_bounds = λ r. omega (arith, charts_short c.chart_text-charted.ensures (omega arith) r, c.requires.0) }

pub returns : goal.returns
returns c =
    record {
      out = put_alone _;
      due = λ input held. room_enough c.requires.0 held (charts_told c.chart_text-charted.ensures (omega arith));
      many = c.put_report.ensures.1;
      lies = c.put_report.ensures.0;
    }
