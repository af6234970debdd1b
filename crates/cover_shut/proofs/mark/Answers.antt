-- `mark` marks the stretches that may have an allowed cover; the others have none.
use Rattle.cover_shut.proofs.Laws.Marks.{marking_begins, marking_skips, marking_sets, marking_ends}
use Rattle.cover_shut.proofs.mark.Goals as goal

pub loop-i-init : goal.loop-i-init
loop-i-init c = search marking_begins

pub loop-i-preserved-then-may_cover : goal.loop-i-preserved-then-may_cover
loop-i-preserved-then-may_cover c = search marking_sets

pub loop-i-preserved : goal.loop-i-preserved
loop-i-preserved c = search (marking_skips, c.may_cover.ensures)

pub returns : goal.returns
returns c = search marking_ends
