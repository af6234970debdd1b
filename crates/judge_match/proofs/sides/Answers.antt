-- One side is set after the other.
use Rattle.judge_match.proofs.Laws.Rows.{sided_more, sided_all}
use native.Mathlib.Omega.{arith}
use Rattle.judge_match.proofs.sides.Goals as goal

pub loop-j-preserved : goal.loop-j-preserved
loop-j-preserved c = sided_more _ c.loop-j.invariant (omega arith) c.with.ensures

pub returns : goal.returns
returns c = search sided_all
