-- `hand_over` writes only where both buffers are long enough.
use Rattle.std.proofs.lemmas.Result.{err_from_is_err_and}
use Prim.Native.Nat.{◌≤◌}
use lib.ListN.{length}
use Rattle.text_sheet.proofs.Laws.Rooms.{two_fit}
use Rattle.stl_read.proofs.Laws.Reading.{short_handed, all_handed}
use Rattle.stl_read.proofs.hand_over.Goals as goal
use Rattle.stl_read.proofs.hand_over.Goals.{In_ok-check_buffers}

-- there is room for both
fit : (c : In_ok-check_buffers) → (length c.args.ws.now ≤ length c.args.words.now) × (length c.args.cs.now ≤ length c.args.corners.now)
fit c = two_fit c.in_ok-check_buffers.ensures

pub returns-in_err-check_buffers : goal.returns-in_err-check_buffers
returns-in_err-check_buffers c =
    let s = c.args in
    let p = err_from_is_err_and c.from_residual.result c.from_residual.ensures.1 in
    rw (p.1, p.2) (short_handed s.ws.now s.cs.now s.words.now s.corners.now c.in_err-check_buffers.ensures)

pub lay_over-requires : goal.lay_over-requires
lay_over-requires c = (fit (goal.at.lay_over-requires c).In_ok-check_buffers).1

pub lay_over-requires-2 : goal.lay_over-requires-2
lay_over-requires-2 c = (fit (goal.at.lay_over-requires-2 c).In_ok-check_buffers).0

pub returns : goal.returns
returns c =
    let s = c.args in
    all_handed s.ws.now s.cs.now s.words.now s.corners.now c.in_ok-check_buffers.ensures c.lay_over-2.ensures c.lay_over.ensures
