-- `lay_others` walks along the loops of a piece that are no rims: it lays the tide pools on the way, and the lakes at the end.
use native.Mathlib.Omega.{arith}
use Rattle.surface_rules.proofs.Laws.Lists.{as_long}
use Rattle.chart_lay.proofs.Laws.Walking as laws
use Rattle.chart_lay.proofs.lay_others.Goals as goal
use Rattle.chart_lay.proofs.lay_others.Goals.{then-is_stamped, else-is_stamped}

pub loop-l-init : goal.loop-l-init
loop-l-init c = laws.walking_begins c.requires

pub bounds-starts-l : goal.bounds-starts-l
bounds-starts-l c = laws.start_there c.requires c.loop-l.invariant c.loop-l-test.true

pub bounds-lengths-l : goal.bounds-lengths-l
bounds-lengths-l c = laws.length_there c.requires c.loop-l.invariant c.loop-l-test.true

pub slice_bounds-is_stamped-end : goal.slice_bounds-is_stamped-end
slice_bounds-is_stamped-end c = (laws.place c.requires c.loop-l.invariant c.loop-l-test.true).ring_in

pub is_stamped-requires : goal.is_stamped-requires
is_stamped-requires c = laws.part_there c.requires c.loop-l.invariant c.loop-l-test.true

pub lay_entry-requires : goal.lay_entry-requires
lay_entry-requires c = laws.entry_there c.requires c.loop-l.invariant c.loop-l-test.true c.is_stamped.ensures c.if-is_stamped.true

pub overflow_add-at : goal.overflow_add-at
overflow_add-at c =
    let a = c.well_formed in
    omega (arith, laws.entry_there c.requires c.loop-l.invariant c.loop-l-test.true c.is_stamped.ensures c.if-is_stamped.true, c.loop-l.invariant.report_long)

pub offset_bounds-lakes-kept : goal.offset_bounds-lakes-kept
offset_bounds-lakes-kept c = omega (arith, laws.lake_there c.requires c.loop-l.invariant c.loop-l-test.true)

pub bounds-lakes-kept : goal.bounds-lakes-kept
bounds-lakes-kept c = laws.lake_there c.requires c.loop-l.invariant c.loop-l-test.true

pub overflow_add-kept : goal.overflow_add-kept
overflow_add-kept c = omega (arith, laws.lake_there c.requires c.loop-l.invariant c.loop-l-test.true)

pub bounds-links-l : goal.bounds-links-l
bounds-links-l c = laws.link_there c.requires c.loop-l.invariant c.loop-l-test.true

pub loop-l-smaller : goal.loop-l-smaller
loop-l-smaller c = laws.going_on c.requires c.loop-l.invariant c.loop-l-test.true

pub loop-l-preserved : goal.loop-l-preserved
loop-l-preserved c =
    elim c.if-is_stamped.branch [
      | then-is_stamped w ↦
          laws.walking_same w.lakes-is w.report-is w.at-is w.kept-is (laws.walking_pool c.requires c.loop-l.invariant c.loop-l-test.true c.is_stamped.ensures w.if-is_stamped.true w.lay_entry.ensures)
      | else-is_stamped w ↦
          laws.walking_same w.lakes-is w.report-is w.at-is w.kept-is (laws.walking_lake c.requires c.loop-l.invariant c.loop-l-test.true c.is_stamped.ensures w.if-is_stamped.false)
    ]

pub slice_bounds-lay_lakes-end : goal.slice_bounds-lay_lakes-end
slice_bounds-lay_lakes-end c = laws.kept_in c.requires c.loop-l.invariant c.loop-l-test.false

pub slice_bounds-lay_lakes-end-2 : goal.slice_bounds-lay_lakes-end-2
slice_bounds-lay_lakes-end-2 c = as_long _ _ (laws.kept_in c.requires c.loop-l.invariant c.loop-l-test.false)

pub lay_lakes-requires : goal.lay_lakes-requires
lay_lakes-requires c = laws.lakes_room c.requires c.loop-l.invariant c.loop-l-test.false

pub returns : goal.returns
returns c = laws.walking_ends c.requires c.loop-l.invariant c.loop-l-test.false c.lay_lakes.ensures
