-- Each triangle's seat is added to the rows.
use Rattle.judge_match.proofs.Laws.Collects.{collecting_stops, collecting_more}
use Rattle.judge_match.proofs.collect.Goals as goal

pub returns-in_default : goal.returns-in_default
returns-in_default c = collecting_stops c.loop-t.invariant c.loop-t-test.true c.seat_at.ensures c.in_default.is

pub loop-t-preserved : goal.loop-t-preserved
loop-t-preserved c = collecting_more c.loop-t.invariant c.loop-t-test.true c.seat_at.ensures _ c.in-Some.is c.with.ensures
