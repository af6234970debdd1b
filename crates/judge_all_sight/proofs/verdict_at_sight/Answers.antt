-- `verdict_at_sight` judges rims, loops of three and long ones, one by one.
use Rattle.judge_all_sight.proofs.Laws.SightVerdict.{going_begins, set_in, places, rim_decides, rim_goes, sight_room, decides, going_on, takes_in, going_ends}
use borrow.Author.Rules.{rules}
use native.Mathlib.Omega.{arith}
use Rattle.std.proofs.lemmas.Result.{err_from_is_err_and}
use Rattle.judge_all_sight.proofs.verdict_at_sight.Goals as goal

pub loop-l-init : goal.loop-l-init
loop-l-init c = search going_begins

pub overflow_add-end : goal.overflow_add-end
overflow_add-end c = omega (arith, places c.requires c.loop-l-test.true c.loop-l.invariant)

pub returns-then-states-l-ne-RIM : goal.returns-then-states-l-ne-RIM
returns-then-states-l-ne-RIM c = search (rim_decides, c.loop-l.invariant, c.requires, c.loop-l-test)

pub loop-l-preserved-then-marks-l-eq-RIM : goal.loop-l-preserved-then-marks-l-eq-RIM
loop-l-preserved-then-marks-l-eq-RIM c = search (rim_goes, c.loop-l.invariant, c.requires, c.loop-l-test)

pub offset_bounds-rings-r : goal.offset_bounds-rings-r
offset_bounds-rings-r c = omega (arith, places c.requires c.loop-l-test.true c.loop-l.invariant)

pub slice_bounds-judge_at_sight-end : goal.slice_bounds-judge_at_sight-end
slice_bounds-judge_at_sight-end c = (places c.requires c.loop-l-test.true c.loop-l.invariant).ring_in

pub judge_at_sight-requires : goal.judge_at_sight-requires
judge_at_sight-requires c = search (sight_room, c.loop-l.invariant, c.requires, c.loop-l-test)

pub returns-in_err-judge_at_sight : goal.returns-in_err-judge_at_sight
returns-in_err-judge_at_sight c =
    let p = err_from_is_err_and c.from_residual.result c.from_residual.ensures.1 in
    rw (p.1, p.2) (decides c.requires c.loop-l-test.true c.loop-l.invariant c.if-marks-l-eq-RIM.false c.in_err-judge_at_sight.ensures)

pub taken-at-requires : goal.taken-at-requires
taken-at-requires c = let h = places c.requires c.loop-l-test.true c.loop-l.invariant in (omega (arith, h), omega (arith, h))

pub overflow_add-at : goal.overflow_add-at
overflow_add-at c =
    let h = takes_in c.requires c.loop-l-test.true c.loop-l.invariant c.if-marks-l-eq-RIM.false c.in_ok-judge_at_sight.ensures c.taken-at.ensures in
    search (rules, h, c.well_formed)

pub loop-l-preserved : goal.loop-l-preserved
loop-l-preserved c = going_on c.requires c.loop-l-test.true c.loop-l.invariant c.if-marks-l-eq-RIM.false c.in_ok-judge_at_sight.ensures c.taken-at.ensures

pub left_over-requires : goal.left_over-requires
left_over-requires c = search set_in

pub returns : goal.returns
returns c = search going_ends
