-- `patch_at_sight` lays loops of three one by one, and passes over rims.
use Rattle.patch_all.specs.Workings.Courses.{docket}
use Rattle.patch_all.proofs.Laws.Going.{Going}
use Rattle.patch_all.proofs.patch_at_sight.Given as goal

abbrev pub invariant-loop-l : goal.invariant-loop-l
invariant-loop-l l = Going l.grid l.corners l.rings l.lengths (docket l.initial.states l.initial.weights l.initial.patches) l.l l.end l.p (docket l.states l.weights l.patches)
