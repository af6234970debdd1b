-- `left_over` compares what was taken with all.
use Rattle.judge_all_sight.proofs.Laws.LeftOver.{some_left}
use Rattle.judge_all_sight.proofs.left_over.Goals as goal

pub returns-then-at-set : goal.returns-then-at-set
returns-then-at-set c = search some_left
