-- The stretch of each triangle's seat is chained.
use Rattle.judge_chain.proofs.Laws.Chained.{chaining_begins, chaining_stops, chaining_chain, chaining_more, chaining_ends}
use native.Mathlib.Omega.{arith}
use Rattle.judge_chain.proofs.chain_seats.Goals as goal

pub loop-t-init : goal.loop-t-init
loop-t-init c = chaining_begins c.requires

pub returns-in_default : goal.returns-in_default
returns-in_default c = chaining_stops c.loop-t.invariant c.loop-t-test.true c.seat_at.ensures c.in_default.is

pub chain-requires : goal.chain-requires
chain-requires c = chaining_chain c.loop-t.invariant c.loop-t-test.true c.seat_at.ensures c.in-Some.is

pub loop-t-preserved : goal.loop-t-preserved
loop-t-preserved c = chaining_more c.loop-t.invariant c.loop-t-test.true c.seat_at.ensures c.in-Some.is c.chain.ensures

pub returns : goal.returns
returns c = chaining_ends c.loop-t.invariant (omega arith)
