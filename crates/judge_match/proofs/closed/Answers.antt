-- Each triangle's two parts are asked for.
use Rattle.judge_match.proofs.Laws.Closes.{closing_seatless, closing_more, closing_stops}
use Rattle.judge_match.proofs.closed.Goals as goal

pub returns-in_default : goal.returns-in_default
returns-in_default c = closing_seatless c.loop-t.invariant c.loop-t-test.true c.seat_at.ensures c.in_default.is

pub returns-then-not-is_set : goal.returns-then-not-is_set
returns-then-not-is_set c = closing_stops c.loop-t.invariant c.loop-t-test.true c.seat_at.ensures c.in-Some.is c.is_set.ensures c.is_set-in-loop-t.ensures (search)

pub loop-t-preserved : goal.loop-t-preserved
loop-t-preserved c = closing_more c.loop-t.invariant c.loop-t-test.true c.seat_at.ensures c.in-Some.is c.is_set.ensures c.is_set-in-loop-t.ensures (search)
