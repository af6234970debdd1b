-- `measure` adds up ring after ring.
use mathlib.Core.Path.{sym, ◌∙◌}
use native.Mathlib.Omega.{arith}
use Rattle.rim_mark.proofs.Laws.Measuring.{measured_begins, measured_ends, ring_within, rings_few, ring_room, measured_skips, measured_more}
use Rattle.rim_mark.proofs.measure.Goals as goal
use Rattle.rim_mark.proofs.measure.Goals.{then-runs-l-ne0, else-runs-l-ne0}

pub loop-l-init : goal.loop-l-init
loop-l-init c = search measured_begins

pub overflow_add-end : goal.overflow_add-end
overflow_add-end c = omega (arith, ring_within c.requires c.loop-l.invariant c.loop-l-test.true, rings_few c.requires c.loop-l.invariant c.loop-l-test.true)

pub offset_bounds-rings-r : goal.offset_bounds-rings-r
offset_bounds-rings-r c = omega (arith, ring_within c.requires c.loop-l.invariant c.loop-l-test.true, rings_few c.requires c.loop-l.invariant c.loop-l-test.true)

pub slice_bounds-run_of-end : goal.slice_bounds-run_of-end
slice_bounds-run_of-end c = ring_within c.requires c.loop-l.invariant c.loop-l-test.true

pub run_of-requires : goal.run_of-requires
run_of-requires c = search (ring_room, c.loop-l.invariant, c.requires, c.loop-l-test)

pub loop-l-preserved : goal.loop-l-preserved
loop-l-preserved c =
    elim c.if-runs-l-ne0.branch [
      | then-runs-l-ne0 w ↦ rw (w.runs-is, w.r-is) (measured_more c.requires c.loop-l.invariant c.loop-l-test.true w.run_of.ensures)
      | else-runs-l-ne0 w ↦ rw (w.runs-is, w.r-is) (measured_skips c.requires c.loop-l.invariant c.loop-l-test.true (λ f. f (sym (c.loop-l.invariant.later _ (omega arith)) ∙ w.if-runs-l-ne0.false)))
    ]

pub returns : goal.returns
returns c = record { told = measured_ends c.requires c.loop-l.invariant c.loop-l-test.false }
