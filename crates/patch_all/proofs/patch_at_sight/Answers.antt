-- `patch_at_sight` lays loops of three one by one, and passes over rims.
use Rattle.patch_all.proofs.Laws.Going.{going_begins, ring_within, rings_few, going_rim, going_ends}
use Rattle.patch_all.proofs.Laws.SightCourse.{going_long, three_room, going_three}
use native.Mathlib.Omega.{arith}
use Rattle.patch_all.proofs.patch_at_sight.Goals as goal

pub loop-l-init : goal.loop-l-init
loop-l-init c = going_begins

pub overflow_add-end : goal.overflow_add-end
overflow_add-end c = omega (arith, ring_within c.loop-l.invariant c.requires.0 c.loop-l-test.true, rings_few c.loop-l.invariant c.requires.0 c.loop-l-test.true)

pub offset_bounds-rings-r : goal.offset_bounds-rings-r
offset_bounds-rings-r c = omega (arith, ring_within c.loop-l.invariant c.requires.0 c.loop-l-test.true, rings_few c.loop-l.invariant c.requires.0 c.loop-l-test.true)

pub slice_bounds-patch_three-end : goal.slice_bounds-patch_three-end
slice_bounds-patch_three-end c = ring_within c.loop-l.invariant c.requires.0 c.loop-l-test.true

pub patch_three-done-requires : goal.patch_three-done-requires
patch_three-done-requires c = search (three_room, c.loop-l.invariant, c.requires, c.loop-l-test)

pub loop-l-preserved-then-states-l-eq-RIM : goal.loop-l-preserved-then-states-l-eq-RIM
loop-l-preserved-then-states-l-eq-RIM c = going_rim c.loop-l.invariant c.loop-l-test.true c.if-states-l-eq-RIM.true

pub loop-l-preserved-then-length-gt3 : goal.loop-l-preserved-then-length-gt3
loop-l-preserved-then-length-gt3 c = search (going_long, c.loop-l.invariant, c.requires, c.loop-l-test)

pub loop-l-preserved : goal.loop-l-preserved
loop-l-preserved c = search (going_three, c.loop-l.invariant, c.requires, c.loop-l-test)

pub returns : goal.returns
returns c = search going_ends
