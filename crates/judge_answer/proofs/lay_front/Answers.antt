-- `lay_front` lays number after number.
use Rattle.judge_answer.proofs.Laws.Fronts.{laying_begins, laying_more, laying_ends}
use Rattle.judge_answer.proofs.lay_front.Goals as goal

pub loop-i-init : goal.loop-i-init
loop-i-init c = laying_begins

pub loop-i-preserved : goal.loop-i-preserved
loop-i-preserved c = search laying_more

pub returns : goal.returns
returns c = search laying_ends
