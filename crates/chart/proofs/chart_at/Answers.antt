-- `chart_at` refuses by the counts, or hands on what they let pass.
use Rattle.std.proofs.Common.{sym}
use Rattle.std.proofs.lemmas.Result.{err_from_is_err_and}
use Rattle.chart_surface.specs.Outcome.{buffers}
use Rattle.chart_surface.proofs.Laws.Answering.{counts_refuse}
use Rattle.chart.proofs.chart_at.Goals as goal

pub returns-in_err-check_counts : goal.returns-in_err-check_counts
returns-in_err-check_counts c =
    let a = c.args in
    let p = err_from_is_err_and c.from_residual.result c.from_residual.ensures.1 in
    rw (p.1, p.2) (counts_refuse a.sheet.pitch a.sheet.words.now a.sheet.corners.now (buffers a.grid.now a.rings.now a.records.now a.report.now) c.in_err-check_counts.ensures)

pub chart_fitting-requires : goal.chart_fitting-requires
chart_fitting-requires c = sym c.in_ok-check_counts.ensures
