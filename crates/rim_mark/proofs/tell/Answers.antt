-- `tell` marks a loop by whether it stands for its piece.
use mathlib.Core.Path.{refl}
use Rattle.rim_mark.proofs.Laws.Telling.{told_begins, told_rim, told_other}
use Rattle.rim_mark.proofs.tell.Goals as goal
use Rattle.rim_mark.proofs.tell.Goals.{then-best-homes, else-best-homes}

pub loop-l-init : goal.loop-l-init
loop-l-init c = told_begins c.requires

pub loop-l-preserved : goal.loop-l-preserved
loop-l-preserved c =
    elim c.if-best-homes.branch [
      | then-best-homes w ↦ told_rim c.requires c.loop-l.invariant c.loop-l-test.true w.if-best-homes.true (rw w.marks-is refl)
      | else-best-homes w ↦ told_other c.requires c.loop-l.invariant c.loop-l-test.true w.if-best-homes.false (rw w.marks-is refl)
    ]
