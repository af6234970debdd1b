-- `has_room`: where there is room for the longest text of so many points and triangles, there is for this one.
use native.Mathlib.Omega.{arith}
use Rattle.text_line.proofs.Laws.Sizes.{needed_most, room_for_longest}
use Rattle.text_line.proofs.has_room.Goals as goal

pub returns-then-head-points : goal.returns-then-head-points
returns-then-head-points c = search room_for_longest

pub overflow_add-result : goal.overflow_add-result
overflow_add-result c = omega (arith, c.requires, c.text_bytes.ensures, needed_most c.args.points c.args.corners.now c.requires.0 c.type_inv.corners)
