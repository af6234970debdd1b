-- `list_cycle` walks the cycle edge by edge until it comes to one that was walked, which is the first.
use mathlib.Core.Path.{refl}
use native.Mathlib.Omega.{arith}
use Rattle.loop_find.proofs.Laws.Going.{going_begins, going_index, going_room, going_landing, going_on, going_less, going_ends}
use Rattle.loop_find.proofs.list_cycle.Goals as goal

pub loop-turns-init : goal.loop-turns-init
loop-turns-init c = going_begins c.requires

pub offset_bounds-turns-e : goal.offset_bounds-turns-e
offset_bounds-turns-e c = omega (arith, going_index c.requires c.loop-turns.invariant)

pub bounds-turns-e : goal.bounds-turns-e
bounds-turns-e c = going_index c.requires c.loop-turns.invariant

pub grow-at-requires : goal.grow-at-requires
grow-at-requires c = going_room c.requires c.loop-turns.invariant c.loop-turns-test.true refl

pub turned-e-requires : goal.turned-e-requires
turned-e-requires c = going_landing c.requires c.loop-turns.invariant c.loop-turns-test.true refl

pub loop-turns-smaller : goal.loop-turns-smaller
loop-turns-smaller c = going_less c.requires c.loop-turns.invariant c.loop-turns-test.true refl c.grow-at.ensures

pub loop-turns-preserved : goal.loop-turns-preserved
loop-turns-preserved c =
    going_on c.requires c.loop-turns.invariant c.loop-turns-test.true refl c.grow-at.ensures c.turned-e.ensures
    (search c.grow-at.auto) (search c.grow-at.auto) (search c.grow-at.auto) (search c.grow-at.auto) (search c.grow-at.auto)

pub returns : goal.returns
returns c = going_ends c.requires c.loop-turns.invariant c.loop-turns-test.false
