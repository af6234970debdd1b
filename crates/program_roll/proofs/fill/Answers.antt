-- `fill`: from loop to loop, there was room for each.
use native.Mathlib.Omega.{arith}
use Rattle.program_roll.proofs.Laws.Filling.{filling_begins, filling_room, filling_within, filling_one, filling_more, filling_full, filling_all}
use Rattle.program_roll.proofs.fill.Goals as goal

pub loop-m-init : goal.loop-m-init
loop-m-init c = search filling_begins

pub overflow_add-m : goal.overflow_add-m
overflow_add-m c = omega (arith, filling_within c.loop-m.invariant c.requires.going)

pub returns-then-out-m : goal.returns-then-out-m
returns-then-out-m c = search filling_full

pub put_next-m-requires : goal.put_next-m-requires
put_next-m-requires c = record { most_in_bounds = omega (arith, c.if-out-m.false); next_room = filling_room c.loop-m.invariant c.requires.going c.loop-m-test.true }

pub loop-m-smaller : goal.loop-m-smaller
loop-m-smaller c = omega (arith, c.loop-m-test.true, filling_one c.loop-m.invariant c.loop-m-test.true c.put_next-m.ensures.tells_next c.requires.going)

pub loop-m-preserved : goal.loop-m-preserved
loop-m-preserved c = search filling_more

pub returns : goal.returns
returns c = search filling_all
