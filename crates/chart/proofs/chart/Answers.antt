-- `chart` refuses a number that is no pitch, and hands on one that is.
use Rattle.std.proofs.lemmas.Result.{err_from_is_err_and}
use Rattle.chart_surface.specs.Outcome.{Buffers, buffers}
use Rattle.chart_surface.proofs.Laws.Answering.{pitch_refuse, at_pitch}
use Rattle.chart.proofs.chart.Goals as goal

pub returns-in_err-step : goal.returns-in_err-step
returns-in_err-step c =
    let p = err_from_is_err_and c.from_residual.result c.from_residual.ensures.1 in
    rw (p.1, p.2) (pitch_refuse _ c.args.words.now c.args.corners.now (buffers c.args.grid.now c.args.rings.now c.args.records.now c.args.report.now) c.in_err-step.ensures)

pub returns : goal.returns
returns c = at_pitch _ c.args.words.now c.args.corners.now (buffers c.args.grid.now c.args.rings.now c.args.records.now c.args.report.now) _ _ c.in_ok-step.ensures c.chart_at.ensures
