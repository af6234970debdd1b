-- `read_states` keeps what is left to read, laid over the present buffer, the same.
use mathlib.Core.Path.{sym}
use Rattle.text_sheet.proofs.Laws.Going.{going_more, going_stuck, going_ends}
use Rattle.text_read_set.proofs.Laws.Exactly.{state_takes, state_small}
use lib.ListN.{length}
use Prim.Native.Nat.{◌<◌}
use native.Mathlib.Omega.{arith}
use Rattle.text_read_set.proofs.read_states.Goals as goal
use Rattle.text_read_set.proofs.read_states.Goals.{In-Some}

-- there is a place for the state, which is small
here : (c : In-Some) → let w = c.loop-i in (w.i < length w.states) × (c.in-Some.s < 10)
here c = (omega (arith, c.loop-i.invariant.0.same, c.requires.1, c.loop-i-test), state_small _ _ _ (sym c.in-Some.ensures.0))

pub returns-in_default : goal.returns-in_default
returns-in_default c = going_stuck c.loop-i.invariant.0 c.loop-i-test.true (sym c.in_default.ensures.0)

pub overflow_cast-states : goal.overflow_cast-states
overflow_cast-states c = omega (arith, here (goal.at.overflow_cast-states c).In-Some)

pub loop-i-preserved : goal.loop-i-preserved
loop-i-preserved c =
    let e = sym c.in-Some.ensures.0 in
    (going_more c.loop-i.invariant.0 c.loop-i-test.true (state_takes _ _ _ e) (omega (arith, here (goal.at.loop-i-preserved c).In-Some)) e, c.in-Some.ensures.1)

pub returns : goal.returns
returns c = going_ends c.loop-i.invariant.0 c.loop-i-test.false c.loop-i.invariant.1
