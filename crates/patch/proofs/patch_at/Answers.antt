-- `patch_at` refuses by the counts, or hands on what they let pass.
use Rattle.std.proofs.Common.{sym}
use Rattle.std.proofs.lemmas.Result.{err_from_is_err_and}
use native.Mathlib.Omega.{arith}
use Rattle.patch_surface.specs.Outcome.{buffers}
use Rattle.patch_surface.proofs.Laws.Answering.{counts_refuse}
use Rattle.patch.proofs.patch_at.Goals as goal

pub returns-in_err-check_counts : goal.returns-in_err-check_counts
returns-in_err-check_counts c =
    let a = c.args in
    let p = err_from_is_err_and c.from_residual.result c.from_residual.ensures.1 in
    rw (p.1, p.2) (counts_refuse a.sheet.pitch a.sheet.words.now a.sheet.corners.now (buffers a.grid.now a.rings.now a.records.now a.patches.now) c.in_err-check_counts.ensures)

pub patch_few-requires : goal.patch_few-requires
patch_few-requires c = (sym c.in_ok-check_counts.ensures, omega (arith, c.of-surface.ensures.0, c.if-surface-le-FEW.true), c.if-sheet-le-FEW.true)

pub patch_many-requires : goal.patch_many-requires
patch_many-requires c = sym c.in_ok-check_counts.ensures
