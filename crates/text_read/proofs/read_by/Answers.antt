-- `read_by` refuses at the line of the fault, or hands on the fronts of its scratch.
use native.Mathlib.Omega.{arith}
use Rattle.std.proofs.lemmas.Result.{err_from_is_err_and}
use Rattle.text_read.proofs.Laws.Deliver.{whole_mapped, fault_promised, words_in, corners_inside, delivered}
use Rattle.text_read.proofs.read_by.Goals as goal

pub shared_whole_as_front-hand_over : goal.shared_whole_as_front-hand_over
shared_whole_as_front-hand_over g c =
    (omega (arith, words_in (whole_mapped c.take_in.result c.take_in.ensures c.in_ok-sheet.ensures.cases), c.take_in.auto), omega (arith, c.requires.few))

pub shared_whole_as_front-hand_over-2 : goal.shared_whole_as_front-hand_over-2
shared_whole_as_front-hand_over-2 g c =
    (omega (arith, corners_inside (whole_mapped c.take_in.result c.take_in.ensures c.in_ok-sheet.ensures.cases), c.take_in.auto), omega (arith, c.requires.few))

pub returns-in_err-sheet : goal.returns-in_err-sheet
returns-in_err-sheet g c =
    let p = err_from_is_err_and c.from_residual.result c.from_residual.ensures.1 in
    rw (p.1, p.2) (fault_promised _ c.take_in.result _ _ _ _ _ _ c.take_in.ensures c.in_err-sheet.ensures.cases)

pub returns : goal.returns
returns g c = delivered (whole_mapped c.take_in.result c.take_in.ensures c.in_ok-sheet.ensures.cases) _ _ _ c.hand_over.ensures
