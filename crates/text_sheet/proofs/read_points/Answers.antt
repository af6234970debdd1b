-- `read_points` lays the numbers of one line after the other.
use mathlib.Core.Path.{sym}
use Prim.Native.Nat.{◌+◌, ◌*◌, ◌≤◌}
use native.Mathlib.Omega.{arith}
use lib.ListN.{length, length-set}
use Rattle.text_hex.proofs.Laws.Marks.{mark_none}
use Rattle.text_sheet.proofs.Laws.Exactly.{point_takes}
use Rattle.text_sheet.proofs.Laws.Going.{next_room, next_going, going_stuck, going_ends}
use Rattle.text_sheet.proofs.read_points.Goals as goal
use Rattle.text_sheet.proofs.read_points.Goals.{In-Some}

-- there is room for three more words
room : (c : In-Some) → 3 * c.loop-i.i + 3 ≤ length c.loop-i.words
room c = next_room point_takes c.args.text.now c.args.at c.loop-i.invariant.0 c.requires.1 c.loop-i-test.true (sym c.in-Some.ensures.0)

pub mark_digits-requires : goal.mark_digits-requires
mark_digits-requires c = mark_none

pub returns-in_default : goal.returns-in_default
returns-in_default c = going_stuck c.loop-i.invariant.0 c.loop-i-test.true (sym c.in_default.ensures.0)

pub bounds-words-i : goal.bounds-words-i
bounds-words-i c = omega (arith, room (goal.at.bounds-words-i c).In-Some)

pub bounds-words-i-in-loop-i : goal.bounds-words-i-in-loop-i
bounds-words-i-in-loop-i c = simp length-set (omega (arith, room (goal.at.bounds-words-i-in-loop-i c).In-Some))

pub bounds-words-i-in-loop-i-2 : goal.bounds-words-i-in-loop-i-2
bounds-words-i-in-loop-i-2 c = simp length-set (omega (arith, room (goal.at.bounds-words-i-in-loop-i-2 c).In-Some))

pub loop-i-preserved : goal.loop-i-preserved
loop-i-preserved c = (
  next_going point_takes c.args.text.now c.args.at c.loop-i.invariant.0 c.requires.1 c.loop-i-test.true (sym c.in-Some.ensures.0),
  c.in-Some.ensures.1,
)

pub returns : goal.returns
returns c = going_ends c.loop-i.invariant.0 c.loop-i-test.false c.loop-i.invariant.1
