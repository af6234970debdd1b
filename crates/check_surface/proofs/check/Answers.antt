-- `check` goes on to the next check where one does not refuse.
use Rattle.std.proofs.Common.{refl}
use Rattle.std.proofs.lemmas.Result.{err_from_is_err_and}
use lib.Dec.{lit<}
use Rattle.check_surface.proofs.Laws.Checking.{room, points_fit, buffers_refuse, corners_refuse, words_decide}
use Rattle.check_surface.proofs.check.Goals as goal

pub returns-in_err-check_buffers : goal.returns-in_err-check_buffers
returns-in_err-check_buffers c =
    let p = err_from_is_err_and c.from_residual.result c.from_residual.ensures.1 in
    rw (p.1, p.2) (buffers_refuse c.in_err-check_buffers.ensures refl refl)

pub overflow_cast-surface : goal.overflow_cast-surface
overflow_cast-surface c = points_fit c.requires c.of-surface.ensures.0 (lit< tt)

pub check_corners-requires : goal.check_corners-requires
check_corners-requires c = search room

pub returns-in_err-check_corners : goal.returns-in_err-check_corners
returns-in_err-check_corners c =
    let p = err_from_is_err_and c.from_residual-in_err-check_corners.result c.from_residual-in_err-check_corners.ensures.1 in
    rw (p.1, p.2) (corners_refuse c.in_ok-check_buffers.ensures refl refl c.of-surface.ensures.0 c.in_err-check_corners.ensures refl refl)

pub returns : goal.returns
returns c = words_decide c.in_ok-check_buffers.ensures refl refl c.of-surface.ensures.0 c.in_ok-check_corners.ensures refl refl c.check_words.ensures
