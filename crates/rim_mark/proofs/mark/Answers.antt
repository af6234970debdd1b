-- `mark` looks at pieces and runs only where a loop stands beside another.
use Rattle.rim_mark.proofs.Laws.Marking.{mark_none, mark_one}
use Rattle.rim_mark.proofs.mark.Goals as goal

pub returns-then-lengths-eq0 : goal.returns-then-lengths-eq0
returns-then-lengths-eq0 c = mark_none c.requires.found _ c.if-lengths-eq0.true

pub returns-then-lengths-eq1 : goal.returns-then-lengths-eq1
returns-then-lengths-eq1 c = mark_one c.requires.found _ c.requires.found.firsts_long c.if-lengths-eq1.true
