-- `gather` reads the points of a ring one by one.
use Rattle.cover_table.proofs.Laws.Gathers.{gathering_begins, gathering_more, gathered}
use Rattle.cover_table.proofs.gather.Goals as goal

pub loop-j-init : goal.loop-j-init
loop-j-init c = search gathering_begins

pub loop-j-preserved : goal.loop-j-preserved
loop-j-preserved c = search gathering_more

pub returns : goal.returns
returns c = search gathered
