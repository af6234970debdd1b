-- `pair_triangle` goes through the three half-edges in order, so that the first that stops the pairing is the one it answers.
use Rattle.check_pairs.proofs.Laws.Triangles.{second_stops, third_stops, triangle_twice, triangle_proper, first_stops, first_room, second_room, third_room}
use Rattle.check_pairs.proofs.pair_triangle.Goals as goal

pub returns-then-is_twice : goal.returns-then-is_twice
returns-then-is_twice c = triangle_twice c.requires c.is_twice.ensures c.if-is_twice.true

pub pair-requires : goal.pair-requires
pair-requires c = first_room c.requires (triangle_proper c.requires c.is_twice.ensures c.if-is_twice.false)

pub returns-then-not-pair : goal.returns-then-not-pair
returns-then-not-pair c = first_stops c.requires c.pair.ensures c.if-not-pair.true

pub pair-requires-2 : goal.pair-requires-2
pair-requires-2 c = second_room (triangle_proper c.requires c.is_twice.ensures c.if-is_twice.false) c.pair.ensures c.if-not-pair.false

pub returns-then-not-pair-2 : goal.returns-then-not-pair-2
returns-then-not-pair-2 c = second_stops c.pair.ensures c.if-not-pair.false c.pair-2.ensures c.if-not-pair-2.true

pub pair-requires-3 : goal.pair-requires-3
pair-requires-3 c = third_room (triangle_proper c.requires c.is_twice.ensures c.if-is_twice.false) c.pair-2.ensures c.if-not-pair-2.false

pub returns-then-not-pair-3 : goal.returns-then-not-pair-3
returns-then-not-pair-3 c = third_stops c.pair-2.ensures c.if-not-pair-2.false c.pair-3.ensures c.if-not-pair-3.true
