-- `pair_few` takes half-edge after half-edge, with all before it paired and chained, and comes to the end, to the first that stops, or to a triangle that names a point twice.
use mathlib.Core.Path.{refl}
use native.Mathlib.Omega.{arith}
use borrow.Author.Rules.{rules}
use Rattle.check_pairs.proofs.Laws.Few.{side_begins, side_twice, side_ends, side_there, side_stops, side_next, side_same}
use Rattle.check_pairs.proofs.pair_few.Goals as goal
use Rattle.check_pairs.proofs.pair_few.Goals.{then-f-i, else-f-i}

pub loop-h-init : goal.loop-h-init
loop-h-init c = (side_begins c.requires c.proper_end-end.ensures, refl, refl, refl)

pub offset_bounds-corners-f : goal.offset_bounds-corners-f
offset_bounds-corners-f c = omega (arith, side_there c.loop-h.invariant.0 c.loop-h-test.true c.after-f.ensures)

pub bounds-corners-f : goal.bounds-corners-f
bounds-corners-f c = search side_there

pub returns-then-not-pair : goal.returns-then-not-pair
returns-then-not-pair c = search side_stops

pub loop-h-preserved : goal.loop-h-preserved
loop-h-preserved c = (
  elim c.if-f-i.branch [
    | then-f-i w ↦ rw w.i-is (side_next c.loop-h.invariant.0 c.loop-h-test.true c.after-f.ensures c.pair.ensures c.if-not-pair.false w.if-f-i.true)
    | else-f-i w ↦ rw w.i-is (side_same c.loop-h.invariant.0 c.loop-h-test.true c.after-f.ensures c.pair.ensures c.if-not-pair.false w.if-f-i.false)
  ],
  search rules,
  search rules,
  search rules,
)

pub returns-then-end-corners : goal.returns-then-end-corners
returns-then-end-corners c = search side_twice

pub returns : goal.returns
returns c = search side_ends
