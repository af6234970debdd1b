-- `patch_each` patches all loops but rims, with one tray.
use Rattle.fill_scratch.specs.Workings.Lent.{trayed}
use Rattle.patch_all.specs.Workings.Courses.{docket}
use Rattle.patch_all.proofs.Laws.FullCourse.{AtWork}
use Rattle.patch_all.proofs.patch_each.Given as goal

abbrev pub invariant-loop-l : goal.invariant-loop-l
invariant-loop-l l =
    AtWork l.grid l.corners l.rings l.lengths (docket l.initial.states l.initial.weights l.initial.patches) (trayed l.initial.tray) l.l l.end l.p l.e
    (docket l.states l.weights l.patches) (trayed l.tray)
