-- `lay_piece` lays the piece, its rim and the others, and ends where there are no more.
use mathlib.Core.Path.{◌∙◌}
use native.Mathlib.Omega.{arith}
use Rattle.chart_lay.proofs.Laws.Pieces as laws
use Rattle.chart_lay.proofs.lay_piece.Goals as goal

pub lay_entry-requires : goal.lay_entry-requires
lay_entry-requires c = laws.own_room c.requires

pub returns-then-rim-eq-NONE : goal.returns-then-rim-eq-NONE
returns-then-rim-eq-NONE c = laws.laid_bare c.requires c.if-rim-eq-NONE.true c.lay_entry.ensures

pub lay_entry-requires-2 : goal.lay_entry-requires-2
lay_entry-requires-2 c = omega (arith, laws.rim_room c.requires c.if-rim-eq-NONE.false, c.lay_entry.auto.report)

pub returns-then-head-eq-NONE : goal.returns-then-head-eq-NONE
returns-then-head-eq-NONE c = laws.laid_alone c.requires c.if-rim-eq-NONE.false c.lay_entry.ensures c.lay_entry-2.ensures c.if-head-eq-NONE.true

pub slice_bounds-stamp_all-end : goal.slice_bounds-stamp_all-end
slice_bounds-stamp_all-end c = (laws.place c.requires c.if-rim-eq-NONE.false).ring_in

pub stamp_all-requires : goal.stamp_all-requires
stamp_all-requires c = laws.part_there c.requires c.if-rim-eq-NONE.false

pub lay_others-requires : goal.lay_others-requires
lay_others-requires c = laws.others_room c.requires c.if-rim-eq-NONE.false c.stamp_all.ensures (search) (c.lay_entry-2.auto.report ∙ c.lay_entry.auto.report)

pub returns : goal.returns
returns c = laws.laid_all c.requires c.if-rim-eq-NONE.false c.lay_entry.ensures c.lay_entry-2.ensures c.stamp_all.ensures (search) c.lay_others.ensures
