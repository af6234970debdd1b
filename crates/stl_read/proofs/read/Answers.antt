-- `read` refuses by the size, and then reads by way of as much scratch as the count asks for.
use native.Mathlib.Omega.{arith}
use Rattle.std.proofs.lemmas.Result.{err_from_is_err_and}
use Rattle.stl_read.specs.Workings.{Fitting}
use Rattle.stl_read.proofs.Laws.Reading.{short_refused, misfit_refused, fitting}
use Rattle.stl_read.proofs.Laws.Rooms.{few_room, many_room}
use Rattle.stl_read.proofs.read.Goals as goal
use Rattle.stl_read.proofs.read.Goals.{In_ok-sized}

-- a file that is not refused by its size
fits : (u : In_ok-sized) → Fitting u.args.file.now u.count-count.result
fits u = fitting _ _ u.count-count.ensures u.in_ok-sized.ensures

pub returns-then-file-lt-FRONT : goal.returns-then-file-lt-FRONT
returns-then-file-lt-FRONT c = search short_refused

pub returns-in_err-sized : goal.returns-in_err-sized
returns-in_err-sized c =
    let p = err_from_is_err_and c.from_residual.result c.from_residual.ensures.1 in
    rw (p.1, p.2) (misfit_refused _ _ _ _ c.count-count.ensures c.in_err-sized.ensures)

pub read_in-requires-clause-room : goal.read_in-requires-clause-room
read_in-requires-clause-room c = few_room _ _ (fits (goal.at.read_in-requires-clause-room c).In_ok-sized) 4 (omega arith) (omega arith) c.if-facets-le-FEWEST.true

pub read_in-requires-then-facets-le-FEW-clause-room : goal.read_in-requires-then-facets-le-FEW-clause-room
read_in-requires-then-facets-le-FEW-clause-room c =
    few_room _ _ (fits (goal.at.read_in-requires-then-facets-le-FEW-clause-room c).In_ok-sized) 16 (omega arith) (omega arith) c.if-facets-le-FEW.true

pub read_in-requires-2-clause-room : goal.read_in-requires-2-clause-room
read_in-requires-2-clause-room c = many_room _ _ (fits (goal.at.read_in-requires-2-clause-room c).In_ok-sized)
