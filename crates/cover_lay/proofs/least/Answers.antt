-- `least` knows both covers of four, and the table tells of every other loop that its bars do not shut.
use Rattle.cover_lay.proofs.Laws.Patches.{found_least, finds_shut}
use Rattle.cover_lay.proofs.least.Goals as goal

pub returns-then-is_shut : goal.returns-then-is_shut
returns-then-is_shut c = finds_shut c.args.grid.now _ _ c.is_shut.ensures c.if-is_shut.true

pub returns : goal.returns
returns c = search found_least
