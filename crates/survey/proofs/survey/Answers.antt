-- `survey` refuses a number that is no pitch, and hands on one that is.
use Rattle.std.proofs.lemmas.Result.{err_from_is_err_and}
use Rattle.survey_rules.specs.Outcome.{buffers}
use Rattle.survey.proofs.Laws.Surveying.{pitch_refuse, at_pitch}
use Rattle.survey.proofs.survey.Goals as goal

pub returns-in_err-step : goal.returns-in_err-step
returns-in_err-step c =
    let a = c.args in
    let p = err_from_is_err_and c.from_residual.result c.from_residual.ensures.1 in
    rw (p.1, p.2) (pitch_refuse _ a.words.now a.corners.now (buffers a.grid.now a.rings.now a.lengths.now) c.in_err-step.ensures)

pub returns : goal.returns
returns c =
    let a = c.args in
    at_pitch _ a.words.now a.corners.now (buffers a.grid.now a.rings.now a.lengths.now) _ c.in_ok-step.ensures c.survey_at.ensures
