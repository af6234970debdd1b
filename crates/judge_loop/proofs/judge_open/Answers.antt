-- `judge_open` finds the bars, and by them whether an allowed cover exists.
use Rattle.judge_loop.proofs.Laws.Judging.{open_room, open_right, open_wrong}
use Rattle.judge_loop.proofs.judge_open.Goals as goal

pub least-requires : goal.least-requires
least-requires c = open_room c.requires c.bars_of.ensures

pub returns-in-None : goal.returns-in-None
returns-in-None c = (search, open_right c.requires c.bars_of.ensures c.least.result c.least.ensures (search))

pub returns-in-Some : goal.returns-in-Some
returns-in-Some c = (search, open_wrong c.requires c.bars_of.ensures c.least.result c.least.ensures (search))
