-- `check` refuses a number that is no pitch, and hands on one that is.
use Rattle.std.proofs.lemmas.Result.{err_from_is_err_and}
use Rattle.patch_surface.specs.Outcome.{Buffers, buffers}
use Rattle.patch_surface.proofs.Laws.Answering.{pitch_says}
use Rattle.patch.proofs.check.Goals as goal

pub returns-in_err-step : goal.returns-in_err-step
returns-in_err-step c =
    let p = err_from_is_err_and c.from_residual.result c.from_residual.ensures.1 in
    rw (p.1, p.2) (pitch_says (buffers c.args.grid.now c.args.rings.now c.args.records.now c.args.patches.now) c.args.pitch c.in_err-step.ensures)

pub returns : goal.returns
returns c = rw c.in_ok-step.ensures c.check_at.ensures
