-- `spread` takes triangle after triangle out of the queue.
use native.Mathlib.Omega.{arith}
use Rattle.rim_pieces.proofs.Laws.Floods.{end_in, around_room, spreading_more, spreading_ends}
use Rattle.rim_pieces.proofs.spread.Goals as goal

pub offset_bounds-queue-done : goal.offset_bounds-queue-done
offset_bounds-queue-done c = omega (arith, (end_in c.loop-done.invariant c.requires), c.loop-done-test)

pub bounds-queue-done : goal.bounds-queue-done
bounds-queue-done c = omega (arith, (end_in c.loop-done.invariant c.requires), c.loop-done-test)

pub around-end-requires : goal.around-end-requires
around-end-requires c = search (around_room, c.loop-done.invariant, c.requires, c.loop-done-test)

pub overflow_add-done : goal.overflow_add-done
overflow_add-done c = omega (arith, (end_in c.loop-done.invariant c.requires), c.loop-done-test)

pub loop-done-smaller : goal.loop-done-smaller
loop-done-smaller c = omega (arith, (end_in c.loop-done.invariant c.requires), c.loop-done-test)

pub loop-done-preserved : goal.loop-done-preserved
loop-done-preserved c = search (spreading_more, c.loop-done.invariant, c.loop-done-test, c.around-end)

pub returns : goal.returns
returns c = search spreading_ends
