-- `measure_all` adds up ring after ring.
use native.Mathlib.Omega.{arith}
use Rattle.rim_mark.proofs.Laws.Measuring.{measured_begins, ring_within, rings_few, ring_room, measured_more}
use Rattle.rim_mark.proofs.measure_all.Goals as goal

pub loop-l-init : goal.loop-l-init
loop-l-init c = search measured_begins

pub overflow_add-end : goal.overflow_add-end
overflow_add-end c = omega (arith, ring_within c.requires c.loop-l.invariant c.loop-l-test.true, rings_few c.requires c.loop-l.invariant c.loop-l-test.true)

pub offset_bounds-rings-r : goal.offset_bounds-rings-r
offset_bounds-rings-r c = omega (arith, ring_within c.requires c.loop-l.invariant c.loop-l-test.true, rings_few c.requires c.loop-l.invariant c.loop-l-test.true)

pub slice_bounds-run_of-end : goal.slice_bounds-run_of-end
slice_bounds-run_of-end c = ring_within c.requires c.loop-l.invariant c.loop-l-test.true

pub run_of-requires : goal.run_of-requires
run_of-requires c = search (ring_room, c.loop-l.invariant, c.requires, c.loop-l-test)

pub loop-l-preserved : goal.loop-l-preserved
loop-l-preserved c = search (measured_more, c.loop-l.invariant, c.requires, c.loop-l-test, c.run_of)
