-- `pair_many` takes triangle after triangle, with all half-edges before them paired and chained, and comes to the end or to the first that stops.
use mathlib.Core.Path.{refl}
use native.Mathlib.Omega.{arith}
use Rattle.check_pairs.proofs.Laws.Rounds.{round_begins, round_room, round_ends, round_inside, round_fits, round_stops, round_more}
use Rattle.check_pairs.proofs.pair_many.Goals as goal

pub loop-i-init : goal.loop-i-init
loop-i-init c = (round_begins _ _ (omega arith) c.requires.few c.requires, refl, refl, refl)

pub pair_triangle-requires : goal.pair_triangle-requires
pair_triangle-requires c = search round_room

pub returns-in-Some : goal.returns-in-Some
returns-in-Some c = search round_stops

pub overflow_add-i : goal.overflow_add-i
overflow_add-i c = omega (arith, round_fits c.loop-i.invariant.0 c.loop-i-test.true)

pub loop-i-smaller : goal.loop-i-smaller
loop-i-smaller c = omega (arith, round_inside c.loop-i.invariant.0 c.loop-i-test.true)

pub loop-i-preserved : goal.loop-i-preserved
loop-i-preserved c = (round_more c.loop-i.invariant.0 c.loop-i-test.true c.pair_triangle.ensures c.in_default.is, search, search, search)

pub returns : goal.returns
returns c = search round_ends
