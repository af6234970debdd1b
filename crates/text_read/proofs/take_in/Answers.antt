-- `take_in` finds the head, and takes in what stands below it.
use mathlib.Core.Path.{refl}
use Rattle.std.proofs.lemmas.Result.{err_from_is_err_and}
use native.Mathlib.Omega.{arith}
use Rattle.text_read.proofs.Laws.Taking.{wrong_bare, whole_bare, few_below, later_below, whole_below, room_below}
use Rattle.text_read.proofs.take_in.Goals as goal

pub returns-in_err-points : goal.returns-in_err-points
returns-in_err-points c =
    let p = err_from_is_err_and c.from_residual.result c.from_residual.ensures.1 in
    rw (p.1, p.2) (wrong_bare _ _ _ _ _ _ c.in_err-points.ensures c.in_default.ensures refl)

pub returns-in_default : goal.returns-in_default
returns-in_default c = whole_bare _ _ _ _ _ _ c.in_ok-points.ensures c.in_default.ensures refl

pub take_body-requires-2 : goal.take_body-requires-2
take_body-requires-2 c =
    let text = c.args.text.now in
    let at = c.in-Some.at in
    (room_below text at _ _ _ c.requires.0, room_below text at _ _ _ c.requires.1)

pub overflow_add-result : goal.overflow_add-result
overflow_add-result c = omega (arith, few_below c.args.text.now c.in-Some.at _ _ _ _ _ c.take_body-2.ensures c.in-Err.is)

pub returns-in-Ok : goal.returns-in-Ok
returns-in-Ok c = whole_below c.args.text.now c.in-Some.at _ _ _ _ _ c.take_body-2.ensures c.in-Some.ensures.0 c.in-Ok.is

pub returns-in-Err : goal.returns-in-Err
returns-in-Err c = later_below c.args.text.now c.in-Some.at _ _ _ _ _ c.take_body-2.ensures c.in-Err.is c.in-Some.ensures.0 c.in-Some.ensures.1
