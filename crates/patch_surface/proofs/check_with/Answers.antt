-- `check_with` writes nothing before every check is done, and then the grid.
use Rattle.std.proofs.Common.{refl}
use Rattle.std.proofs.lemmas.Result.{err_from_is_err_and}
use Rattle.patch_surface.proofs.Laws.Checking.{checks_refuse, grid_ready, checks_pass}
use Rattle.patch_surface.proofs.check_with.Goals as goal

pub returns-in_err-check : goal.returns-in_err-check
returns-in_err-check c =
    let p = err_from_is_err_and c.from_residual.result c.from_residual.ensures.1 in
    rw (p.1, p.2) (checks_refuse c.args.sheet.pitch c.requires.0.counts c.in_err-check.ensures refl)

pub lay_grid-requires : goal.lay_grid-requires
lay_grid-requires c = grid_ready c.args.sheet.pitch c.requires.0.counts c.in_ok-check.ensures c.requires.1 refl

pub returns : goal.returns
returns c = checks_pass c.args.sheet.pitch c.requires.0.counts c.in_ok-check.ensures refl c.lay_grid.ensures
