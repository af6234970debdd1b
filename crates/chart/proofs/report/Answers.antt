-- `report` refuses a number that is no pitch, and hands on one that is.
use Rattle.std.proofs.lemmas.Result.{err_from_is_err_and}
use Rattle.chart_surface.proofs.Laws.Answering.{alone_pitch, alone_at}
use Rattle.chart.proofs.report.Goals as goal

pub returns-in_err-step : goal.returns-in_err-step
returns-in_err-step c =
    let p = err_from_is_err_and c.from_residual.result c.from_residual.ensures.1 in
    rw (p.1, p.2) (alone_pitch _ c.args.words.now c.args.corners.now c.args.report.now c.in_err-step.ensures)

pub returns : goal.returns
returns c = alone_at _ c.args.words.now c.args.corners.now c.args.report.now _ c.in_ok-step.ensures c.report_at.ensures
