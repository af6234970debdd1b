-- `after` goes on by one, or from the last half-edge of a triangle back to its first.
use Rattle.check_pairs.proofs.Laws.Few.{after_last, after_other}
use Rattle.check_pairs.proofs.after.Goals as goal

pub returns-then-h-i : goal.returns-then-h-i
returns-then-h-i c = search after_last

pub returns : goal.returns
returns c = search after_other
