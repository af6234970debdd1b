-- `read_triangles` lays the numbers of one line after the other.
use mathlib.Core.Path.{sym}
use Prim.Native.Nat.{◌+◌, ◌*◌, ◌<◌, ◌≤◌}
use native.Mathlib.Omega.{arith}
use lib.ListN.{length, length-set}
use Rattle.base_limits.specs.Limits as limits
use Rattle.surface_rules.specs.Threes.{three}
use Rattle.text_sheet.specs.Sheet.{Every}
use Rattle.text_sheet.proofs.Laws.Exactly.{triangle_takes, triangle_small}
use Rattle.text_sheet.proofs.Laws.Going.{next_room, next_going, going_stuck, going_ends}
use Rattle.text_sheet.proofs.read_triangles.Goals as goal
use Rattle.text_sheet.proofs.read_triangles.Goals.{In-Some}

-- the corners of a line name points that there can be
small : (c : In-Some) → Every (λ c. c < limits.points) (three c.in-Some.a c.in-Some.b c.in-Some.c)
small c = triangle_small _ _ _ (sym c.in-Some.ensures.0)

-- there is room for three more corners
room : (c : In-Some) → 3 * c.loop-i.i + 3 ≤ length c.loop-i.corners
room c = next_room triangle_takes c.args.text.now c.args.at c.loop-i.invariant.0 c.requires.1 c.loop-i-test.true (sym c.in-Some.ensures.0)

pub returns-in_default : goal.returns-in_default
returns-in_default c = going_stuck c.loop-i.invariant.0 c.loop-i-test.true (sym c.in_default.ensures.0)

pub overflow_cast-corners : goal.overflow_cast-corners
overflow_cast-corners c = omega (arith, (small (goal.at.overflow_cast-corners c).In-Some).first_has)

pub bounds-corners-i : goal.bounds-corners-i
bounds-corners-i c = omega (arith, room (goal.at.bounds-corners-i c).In-Some)

pub overflow_cast-corners-in-loop-i : goal.overflow_cast-corners-in-loop-i
overflow_cast-corners-in-loop-i c = omega (arith, (small (goal.at.overflow_cast-corners-in-loop-i c).In-Some).second_has)

pub bounds-corners-i-in-loop-i : goal.bounds-corners-i-in-loop-i
bounds-corners-i-in-loop-i c = simp length-set (omega (arith, room (goal.at.bounds-corners-i-in-loop-i c).In-Some))

pub overflow_cast-corners-in-loop-i-2 : goal.overflow_cast-corners-in-loop-i-2
overflow_cast-corners-in-loop-i-2 c = omega (arith, (small (goal.at.overflow_cast-corners-in-loop-i-2 c).In-Some).third_has)

pub bounds-corners-i-in-loop-i-2 : goal.bounds-corners-i-in-loop-i-2
bounds-corners-i-in-loop-i-2 c = simp length-set (omega (arith, room (goal.at.bounds-corners-i-in-loop-i-2 c).In-Some))

pub loop-i-preserved : goal.loop-i-preserved
loop-i-preserved c = (
  next_going triangle_takes c.args.text.now c.args.at c.loop-i.invariant.0 c.requires.1 c.loop-i-test.true (sym c.in-Some.ensures.0),
  c.in-Some.ensures.1,
)

pub returns : goal.returns
returns c = going_ends c.loop-i.invariant.0 c.loop-i-test.false c.loop-i.invariant.1
