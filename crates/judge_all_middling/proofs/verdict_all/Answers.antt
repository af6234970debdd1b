-- `verdict_all` judges all loops, rims at sight and the others with one tray.
use Rattle.fill_scratch.proofs.Laws.Tray.{input_room, edges_kept, same_kept}
use Rattle.judge_all_middling.proofs.Laws.FullVerdict.{going_begins, set_in, going_ends, places, rim_decides, rim_goes, judge_room, decides, takes_in, going_on}
use borrow.Author.Rules.{rules}
use native.Mathlib.Omega.{arith}
use Rattle.std.proofs.lemmas.Result.{err_from_is_err_and}
use Rattle.judge_all_middling.proofs.verdict_all.Goals as goal

pub chain_input-requires : goal.chain_input-requires
chain_input-requires c = input_room c.requires.0.corners c.requires.1

pub loop-l-init : goal.loop-l-init
loop-l-init c =
    let (held, told) = c.chain_input.ensures in
    going_begins c.requires.0 (edges_kept held.2 held.3 c.requires.1) told

pub overflow_add-end : goal.overflow_add-end
overflow_add-end c = omega (arith, places c.requires.0 c.loop-l.invariant c.loop-l-test.true)

pub returns-then-states-l-ne-RIM : goal.returns-then-states-l-ne-RIM
returns-then-states-l-ne-RIM c = rim_decides c.requires.0 c.loop-l.invariant c.loop-l-test.true (search) c.if-states-l-ne-RIM.true

pub loop-l-preserved-then-rims-l-eq-RIM : goal.loop-l-preserved-then-rims-l-eq-RIM
loop-l-preserved-then-rims-l-eq-RIM c = rim_goes c.requires.0 c.loop-l.invariant c.loop-l-test.true (search) c.if-states-l-ne-RIM.false

pub overflow_add-hand : goal.overflow_add-hand
overflow_add-hand c = omega (arith, places c.requires.0 c.loop-l.invariant c.loop-l-test.true)

pub overflow_cast-hand : goal.overflow_cast-hand
overflow_cast-hand c = omega (arith, places c.requires.0 c.loop-l.invariant c.loop-l-test.true)

pub offset_bounds-rings-r : goal.offset_bounds-rings-r
offset_bounds-rings-r c = omega (arith, places c.requires.0 c.loop-l.invariant c.loop-l-test.true)

pub slice_bounds-judge_loop-end : goal.slice_bounds-judge_loop-end
slice_bounds-judge_loop-end c = (places c.requires.0 c.loop-l.invariant c.loop-l-test.true).ring_in

pub judge_loop-requires : goal.judge_loop-requires
judge_loop-requires c = judge_room c.requires.0 c.loop-l.invariant c.loop-l-test.true c.requires.2 c.if-rims-l-eq-RIM.false

pub returns-in_err-e : goal.returns-in_err-e
returns-in_err-e c =
    let p = err_from_is_err_and c.from_residual.result c.from_residual.ensures.1 in
    rw (p.1, p.2) (decides c.requires.0 c.loop-l.invariant c.loop-l-test.true c.if-rims-l-eq-RIM.false c.in_err-e.ensures.1)

pub taken-at-requires : goal.taken-at-requires
taken-at-requires c = let h = places c.requires.0 c.loop-l.invariant c.loop-l-test.true in (omega (arith, h), omega (arith, h))

pub overflow_add-at : goal.overflow_add-at
overflow_add-at c =
    let h =
    takes_in c.requires.0 c.loop-l.invariant c.loop-l-test.true c.if-rims-l-eq-RIM.false c.in_ok-e.ensures.1 c.taken-at.ensures in
    search (rules, h, c.well_formed)

pub loop-l-preserved : goal.loop-l-preserved
loop-l-preserved c =
    going_on c.requires.0 c.loop-l.invariant c.loop-l-test.true c.if-rims-l-eq-RIM.false c.in_ok-e.ensures.1 c.taken-at.ensures
    (same_kept c.loop-l.tray c.judge_loop.new.tray c.in_ok-e.ensures.0)

pub left_over-requires : goal.left_over-requires
left_over-requires c = set_in c.requires.0 c.loop-l.invariant

pub returns : goal.returns
returns c = search (going_ends, c.requires.0, c.loop-l.invariant)
