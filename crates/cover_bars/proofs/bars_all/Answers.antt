-- `bars_all` walks from position after position.
use borrow.Author.Rules.{rules}
use Rattle.cover_bars.proofs.Laws.Rounds.{round_begins, round_ends, round_more}
use Rattle.cover_bars.proofs.bars_all.Goals as goal

pub loop-j-init : goal.loop-j-init
loop-j-init c = round_begins c.requires.0 c.requires.1

pub loop-j-preserved : goal.loop-j-preserved
loop-j-preserved c = round_more c.loop-j.invariant (search rules) c.bars_from.ensures

pub returns : goal.returns
returns c = search round_ends
