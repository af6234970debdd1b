-- The set is no cover where a triangle has no seat, the loop no triangle or a triangle a part without one; else its stretches meet bars or not.
use mathlib.Core.Path.{refl}
use native.Mathlib.Omega.{arith}
use lib.ListN.{get_or-replicate}
use Rattle.base_limits.specs.Limits as limits
use Rattle.judge_match.proofs.Laws.Matched.{match_seatless, match_topless, match_open, match_barred, match_allowed}
use Rattle.judge_match.proofs.match_cover.Goals as goal

pub sides-requires : goal.sides-requires
sides-requires c = (omega (arith, c.requires.many), c.requires.ringed.few, refl, λ j l. get_or-replicate limits.longest j 0 0 l)

pub returns-then-not-collect : goal.returns-then-not-collect
returns-then-not-collect c = search match_seatless

pub returns-then-not-is_set : goal.returns-then-not-is_set
returns-then-not-is_set c = match_topless c.requires c.sides.ensures c.collect.ensures (search) c.is_set.ensures (search)

pub returns-then-not-closed : goal.returns-then-not-closed
returns-then-not-closed c = match_open c.requires c.sides.ensures c.collect.ensures (search) c.closed.result c.closed.ensures (search)

pub returns-then-clash : goal.returns-then-clash
returns-then-clash c =
    match_barred c.requires c.sides.ensures c.collect.ensures (search) c.is_set.ensures (search)
    c.closed.result c.closed.ensures (search) c.clash.result c.clash.ensures c.if-clash.true

pub returns : goal.returns
returns c =
    match_allowed c.requires c.sides.ensures c.collect.ensures (search) c.is_set.ensures (search)
    c.closed.result c.closed.ensures (search) c.clash.result c.clash.ensures c.if-clash.false
