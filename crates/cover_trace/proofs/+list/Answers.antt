-- `list` lays the triangle of the first apex, lists one part by a call and goes on with the other, each shorter than the whole.
use mathlib.Core.Path.{refl}
use Rattle.cover_trace.proofs.Laws.Lists.{going_begins, going_after, going_before, going_past_side, going_up_to_side, going_ends, going_less, room_before, room_after}
use Rattle.cover_trace.proofs.+list.Goals as goal

pub loop-from-init : goal.loop-from-init
loop-from-init t c = going_begins c.requires

pub loop-from-preserved-then-from-m : goal.loop-from-preserved-then-from-m
loop-from-preserved-then-from-m t c = going_past_side c.loop-from.invariant c.middle-m.ensures c.lay.ensures (search)

pub loop-from-preserved-then-m-to : goal.loop-from-preserved-then-m-to
loop-from-preserved-then-m-to t c = going_up_to_side c.loop-from.invariant c.middle-m.ensures c.lay.ensures (search)

pub list-requires : goal.list-requires
list-requires t c =
    let g = c.loop-from.invariant in
    ((going_less g c.middle-m.ensures c.decreases).0, room_before g.room c.middle-m.ensures c.lay.ensures refl)

pub loop-from-preserved-then-m-from : goal.loop-from-preserved-then-m-from
loop-from-preserved-then-m-from t c = going_after c.loop-from.invariant c.middle-m.ensures c.lay.ensures refl (search c.list.auto) c.list.ensures

pub list-requires-in-loop-from : goal.list-requires-in-loop-from
list-requires-in-loop-from t c =
    let g = c.loop-from.invariant in
    ((going_less g c.middle-m.ensures c.decreases).1, room_after g.room c.middle-m.ensures c.lay.ensures refl refl)

pub loop-from-preserved : goal.loop-from-preserved
loop-from-preserved t c = going_before c.loop-from.invariant c.middle-m.ensures c.lay.ensures refl (search c.list-in-loop-from.auto) c.list-in-loop-from.ensures

pub returns : goal.returns
returns t c = going_ends c.loop-from.invariant c.loop-from-test.false
