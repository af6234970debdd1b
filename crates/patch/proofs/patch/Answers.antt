-- `patch` refuses a number that is no pitch, and hands on one that is.
use Rattle.std.proofs.lemmas.Result.{err_from_is_err_and}
use Rattle.patch_surface.specs.Outcome.{Buffers, buffers}
use Rattle.patch_surface.proofs.Laws.Answering.{pitch_refuse, at_pitch}
use Rattle.patch.proofs.patch.Goals as goal

pub returns-in_err-step : goal.returns-in_err-step
returns-in_err-step c =
    let p = err_from_is_err_and c.from_residual.result c.from_residual.ensures.1 in
    rw (p.1, p.2) (pitch_refuse _ c.args.words.now c.args.corners.now (buffers c.args.grid.now c.args.rings.now c.args.records.now c.args.patches.now) c.in_err-step.ensures)

pub returns : goal.returns
returns c =
    at_pitch _ c.args.words.now c.args.corners.now (buffers c.args.grid.now c.args.rings.now c.args.records.now c.args.patches.now) _ _ c.in_ok-step.ensures c.patch_at.ensures
