-- `survey_at` writes nothing before every check is done.
use Rattle.std.proofs.Common.{refl, sym}
use Rattle.std.proofs.lemmas.Result.{err_from_is_err_and}
use native.Mathlib.Nat.{le_trans}
use native.Mathlib.Omega.{arith}
use lib.Dec.{lit≤}
use Rattle.survey_rules.proofs.Laws.Known.{suited, enough, ready}
use Rattle.surface_rules.proofs.Laws.Thens.{counts_fit}
use Rattle.survey.proofs.Laws.Surveying.{counts_refuse, content_refuse, done_is}
use Rattle.survey.proofs.survey_at.Goals as goal

pub returns-in_err-check_counts : goal.returns-in_err-check_counts
returns-in_err-check_counts c =
    let p = err_from_is_err_and c.from_residual.result c.from_residual.ensures.1 in
    rw (p.1, p.2) (counts_refuse _ _ _ _ c.in_err-check_counts.ensures)

pub check-requires : goal.check-requires
check-requires c = let e = sym c.in_ok-check_counts.ensures in record { counts = e; long = le_trans (counts_fit _ _ e).few_corners (lit≤ tt) }

pub returns-in_err-check : goal.returns-in_err-check
returns-in_err-check c =
    let p = err_from_is_err_and c.from_residual-in_err-check.result c.from_residual-in_err-check.ensures.1 in
    rw (p.1, p.2) (content_refuse _ _ _ _ (sym c.in_ok-check_counts.ensures) c.in_err-check.ensures)

pub lay_grid-requires : goal.lay_grid-requires
lay_grid-requires c =
    let k = suited c.args.sheet.pitch _ _ _ c.args.grid.now c.args.rings.now c.args.lengths.now _ (sym c.in_ok-check_counts.ensures) c.in_ok-check.ensures refl in
    (k.known.on_grid, k.grid_long)

pub list_loops-listed-requires : goal.list_loops-listed-requires
list_loops-listed-requires c =
    let k = suited c.args.sheet.pitch _ _ _ c.args.grid.now c.args.rings.now c.args.lengths.now _ (sym c.in_ok-check_counts.ensures) c.in_ok-check.ensures refl in
    ready k.known _ _ _ (le_trans k.known.fits.few_corners (omega arith)) k.rings_long k.lengths_long (enough k.known (lit≤ tt))

pub returns : goal.returns
returns c =
    let k = suited c.args.sheet.pitch _ _ _ c.args.grid.now c.args.rings.now c.args.lengths.now _ (sym c.in_ok-check_counts.ensures) c.in_ok-check.ensures refl in
    done_is k c.list_loops-listed.ensures c.lay_grid.ensures
