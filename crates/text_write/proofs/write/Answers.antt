-- `write` answers by the first check that refuses, and writes where none does.
use mathlib.Core.Path.{ap, refl}
use mathlib.Core.Bool.{not}
use native.Mathlib.Omega.{arith}
use lib.ListN.{length}
use Rattle.std.proofs.lemmas.Result.{err_from_is_err_and}
use Rattle.text_line.specs.Workings.Means.{Counted}
use Rattle.text_sheet.proofs.Laws.Heads.{head_most}
use Rattle.text_write.specs.Workings.Means.{Ready}
use Rattle.text_write.proofs.Laws.Outcomes.{Roomy, pitch_here, pitch_refused, counts_refused, counted, no_room, roomy, corner_refused, ready, wrote}
use Rattle.text_write.proofs.Laws.Whole.{points_few}
use Rattle.text_write.proofs.write.Goals as goal
use Rattle.text_write.proofs.write.Goals.{After-of-sheet, Else-not-has_room, In_default}

-- the counts were not refused
counted_here : (c : After-of-sheet) → Counted c.of-sheet.result.points (length c.args.corners.now)
counted_here c =
    counted _ c.args.words.now c.args.corners.now c.args.text.now (pitch_here c.in_ok-try_from.field-0 c.in_ok-try_from.ensures) c.in_ok-check_counts.ensures c.of-sheet.ensures.0

-- there is room
roomy_here : (c : Else-not-has_room) → let a = c.args in Roomy a.pitch a.words.now a.corners.now a.text.now
roomy_here c =
    roomy _ _ _ _ (pitch_here c.in_ok-try_from.field-0 c.in_ok-try_from.ensures) c.in_ok-check_counts.ensures
    c.of-sheet.ensures.0 c.head_bytes.ensures _ c.has_room.ensures (ap not c.if-not-has_room.false)

pub returns-in_err-try_from : goal.returns-in_err-try_from
returns-in_err-try_from c =
    let a = c.args in
    let p = err_from_is_err_and c.from_residual.result c.from_residual.ensures.1 in
    rw (p.1, p.2) (pitch_refused _ a.words.now a.corners.now a.text.now c.in_err-try_from.ensures)

pub returns-in_err-check_counts : goal.returns-in_err-check_counts
returns-in_err-check_counts c =
    let a = c.args in
    let p = err_from_is_err_and c.from_residual-in_err-check_counts.result c.from_residual-in_err-check_counts.ensures.1 in
    rw (p.1, p.2) (counts_refused _ a.words.now a.corners.now a.text.now (pitch_here c.in_ok-try_from.field-0 c.in_ok-try_from.ensures) c.in_err-check_counts.ensures)

pub head_bytes-requires : goal.head_bytes-requires
head_bytes-requires c = pitch_here c.in_ok-try_from.field-0 c.in_ok-try_from.ensures

pub has_room-requires : goal.has_room-requires
has_room-requires c = (
  counted_here (goal.at.has_room-requires c).After-of-sheet,
  omega (arith, c.head_bytes.ensures, head_most c.args.pitch (pitch_here c.in_ok-try_from.field-0 c.in_ok-try_from.ensures)),
)

pub returns-then-not-has_room : goal.returns-then-not-has_room
returns-then-not-has_room c =
    no_room _ _ _ _ (pitch_here c.in_ok-try_from.field-0 c.in_ok-try_from.ensures) c.in_ok-check_counts.ensures
    c.of-sheet.ensures.0 c.head_bytes.ensures _ c.has_room.ensures (ap not c.if-not-has_room.true)

pub overflow_cast-sheet : goal.overflow_cast-sheet
overflow_cast-sheet c = omega (arith, (counted_here (goal.at.overflow_cast-sheet c).After-of-sheet).few_points)

pub returns-in-Some : goal.returns-in-Some
returns-in-Some c =
    corner_refused _ _ _ _ (roomy_here (goal.at.returns-in-Some c).Else-not-has_room)
    c.of-sheet.ensures.0 _ c.first_unnamed.ensures c.in-Some.is

-- every corner names a point
ready_here : (c : In_default) → let a = c.args in Roomy a.pitch a.words.now a.corners.now a.text.now → Ready a.pitch a.words.now a.corners.now a.text.now
ready_here c k = ready _ _ _ _ k c.of-sheet.ensures.0 _ c.first_unnamed.ensures c.in_default.is

pub put_by-bytes-requires-clause-ready : goal.put_by-bytes-requires-clause-ready
put_by-bytes-requires-clause-ready c = let at = goal.at.put_by-bytes-requires-clause-ready c in ready_here at.In_default (roomy_here at.Else-not-has_room)

pub put_by-bytes-requires-else-sheet-le-FEW-clause-ready : goal.put_by-bytes-requires-else-sheet-le-FEW-clause-ready
put_by-bytes-requires-else-sheet-le-FEW-clause-ready c =
    let at = goal.at.put_by-bytes-requires-else-sheet-le-FEW-clause-ready c in
    ready_here at.In_default (roomy_here at.Else-not-has_room)

pub put_by-bytes-requires-else-sheet-le-FEW-clause-few : goal.put_by-bytes-requires-else-sheet-le-FEW-clause-few
put_by-bytes-requires-else-sheet-le-FEW-clause-few c =
    let at = goal.at.put_by-bytes-requires-else-sheet-le-FEW-clause-few c in
    (points_few (ready_here at.In_default (roomy_here at.Else-not-has_room)) (refl, refl), omega arith)

pub returns-then-sheet-le-FEW : goal.returns-then-sheet-le-FEW
returns-then-sheet-le-FEW c =
    let at = goal.at.returns-then-sheet-le-FEW c in
    wrote _ _ _ _ (ready_here at.In_default (roomy_here at.Else-not-has_room)) _ _ c.put_by-bytes.ensures

pub returns-else-sheet-le-FEW : goal.returns-else-sheet-le-FEW
returns-else-sheet-le-FEW c =
    let at = goal.at.returns-else-sheet-le-FEW c in
    wrote _ _ _ _ (ready_here at.In_default (roomy_here at.Else-not-has_room)) _ _ c.put_by-bytes-else-sheet-le-FEW.ensures
