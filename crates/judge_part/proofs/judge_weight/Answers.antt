-- `judge_weight` compares the part with the least weight.
use Rattle.judge_part.proofs.Laws.Weighed.{weigh_room, weight_none, weight_heavy, weight_right}
use Rattle.judge_part.proofs.judge_weight.Goals as goal

pub returns-in_default : goal.returns-in_default
returns-in_default c = search weight_none

pub weigh_set-requires : goal.weigh_set-requires
weigh_set-requires c = search weigh_room

pub returns-then-weight-weigh_set : goal.returns-then-weight-weigh_set
returns-then-weight-weigh_set c = search weight_heavy

pub returns : goal.returns
returns c = search weight_right
