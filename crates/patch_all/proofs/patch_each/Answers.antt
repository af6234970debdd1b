-- `patch_each` patches all loops but rims, with one tray.
use Rattle.fill_scratch.proofs.Laws.Tray.{input_room, edges_kept, same_kept}
use Rattle.patch_all.proofs.Laws.Going.{ring_within, rings_few, going_ends}
use Rattle.patch_all.proofs.Laws.FullCourse.{work_begins, take_room, work_rim, work_on}
use native.Mathlib.Omega.{arith}
use Rattle.patch_all.proofs.patch_each.Goals as goal

pub chain_input-requires : goal.chain_input-requires
chain_input-requires c = input_room c.requires.0.corners c.requires.1

pub loop-l-init : goal.loop-l-init
loop-l-init c =
    let (held, told) = c.chain_input.ensures in
    work_begins (edges_kept held.2 held.3 c.requires.1) told

pub overflow_add-end : goal.overflow_add-end
overflow_add-end c = omega (arith, ring_within c.loop-l.invariant.going c.requires.0 c.loop-l-test.true, rings_few c.loop-l.invariant.going c.requires.0 c.loop-l-test.true)

pub offset_bounds-rings-r : goal.offset_bounds-rings-r
offset_bounds-rings-r c = omega (arith, ring_within c.loop-l.invariant.going c.requires.0 c.loop-l-test.true, rings_few c.loop-l.invariant.going c.requires.0 c.loop-l-test.true)

pub overflow_add-r : goal.overflow_add-r
overflow_add-r c = omega (arith, ring_within c.loop-l.invariant.going c.requires.0 c.loop-l-test.true, rings_few c.loop-l.invariant.going c.requires.0 c.loop-l-test.true)

pub overflow_cast-r : goal.overflow_cast-r
overflow_cast-r c = omega (arith, ring_within c.loop-l.invariant.going c.requires.0 c.loop-l-test.true, rings_few c.loop-l.invariant.going c.requires.0 c.loop-l-test.true)

pub slice_bounds-patch_loop-end : goal.slice_bounds-patch_loop-end
slice_bounds-patch_loop-end c = ring_within c.loop-l.invariant.going c.requires.0 c.loop-l-test.true

pub patch_loop-done-requires : goal.patch_loop-done-requires
patch_loop-done-requires c = take_room c.loop-l.invariant c.requires.0 c.loop-l-test.true c.requires.2 c.if-states-l-eq-RIM.false

pub loop-l-preserved-then-states-l-eq-RIM : goal.loop-l-preserved-then-states-l-eq-RIM
loop-l-preserved-then-states-l-eq-RIM c = work_rim c.loop-l.invariant c.requires.0 c.loop-l-test.true c.if-states-l-eq-RIM.true

pub loop-l-preserved : goal.loop-l-preserved
loop-l-preserved c =
    let (same, took) = c.patch_loop-done.ensures in
    work_on c.loop-l.invariant c.requires.0 c.loop-l-test.true c.if-states-l-eq-RIM.false (search c.patch_loop-done.auto) (same_kept c.loop-l.tray c.patch_loop-done.new.tray same) took

pub returns : goal.returns
returns c = going_ends c.loop-l.invariant.going c.loop-l-test.false
