-- `pair` walks the bucket of its two ends, which holds all that joins them, so that its answer is right, and chains the half-edge in front.
use native.Mathlib.Omega.{arith}
use Rattle.surface_twins.proofs.Laws.Pairing.{bucket_inside, pair_meets, pair_turns, pair_stops, pair_goes}
use Rattle.surface_twins.proofs.pair.Goals as goal

pub offset_bounds-heads-b : goal.offset_bounds-heads-b
offset_bounds-heads-b c = omega (arith, bucket_inside c.requires c.bucket-b.ensures)

pub bounds-heads-b : goal.bounds-heads-b
bounds-heads-b c = search bucket_inside

pub meet-met-requires : goal.meet-met-requires
meet-met-requires c = search pair_meets

pub turn-requires : goal.turn-requires
turn-requires c = search pair_turns

pub returns-then-not-turn : goal.returns-then-not-turn
returns-then-not-turn c = pair_stops c.requires c.bucket-b.ensures _ c.meet-met.ensures c.turn.ensures c.if-not-turn.true

pub offset_bounds-heads-b-2 : goal.offset_bounds-heads-b-2
offset_bounds-heads-b-2 c = omega (arith, bucket_inside c.requires c.bucket-b.ensures, c.well_formed)

pub bounds-heads-b-2 : goal.bounds-heads-b-2
bounds-heads-b-2 c = search bucket_inside

pub returns : goal.returns
returns c = pair_goes c.requires c.bucket-b.ensures _ c.meet-met.ensures c.turn.ensures c.if-not-turn.false
