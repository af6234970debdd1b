-- `check_at` refuses by the counts, or hands on what they let pass.
use Rattle.std.proofs.Common.{refl, sym}
use Rattle.std.proofs.lemmas.Result.{err_from_is_err_and}
use native.Mathlib.Nat.{le_trans}
use lib.ListN.{length}
use Rattle.surface_rules.proofs.Laws.Thens.{counts_fit}
use Rattle.patch_surface.specs.Outcome.{buffers}
use Rattle.patch_surface.proofs.Laws.Answering.{counts_say}
use Rattle.patch.proofs.check_at.Goals as goal

pub returns-in_err-check_counts : goal.returns-in_err-check_counts
returns-in_err-check_counts c =
    let a = c.args in
    let p = err_from_is_err_and c.from_residual.result c.from_residual.ensures.1 in
    rw (p.1, p.2) (counts_say (buffers a.grid.now a.rings.now a.records.now a.patches.now) a.sheet.pitch refl c.in_err-check_counts.ensures)

pub check-requires : goal.check-requires
check-requires c =
    let e = sym c.in_ok-check_counts.ensures in
    record { counts = e; long = le_trans (counts_fit (length c.args.sheet.words.now) (length c.args.sheet.corners.now) e).few_corners c.requires }
