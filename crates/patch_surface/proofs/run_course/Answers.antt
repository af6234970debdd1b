-- `run_course` lends the course the place of the weights.
use mathlib.Core.Path.{◌∙◌}
use Prim.Native.Nat.{◌*◌, ◌-◌}
use native.Mathlib.Omega.{arith}
use lib.ListN.{length}
use Rattle.patch_surface.proofs.Laws.Weighing.{put_back, part_long}
use Rattle.patch_surface.proofs.run_course.Goals as goal

pub returns : goal.returns
returns c =
    let n = length c.args.lengths.now in
    let e = c.records-1.given.0 ∙ part_long n c.args.records.now c.requires.0.room in
    record { weights = _; as_many = e; course = c.patch_all.ensures; stand = put_back (6 * n) (7 * n - 6 * n) c.args.records.now _ (omega (arith, e)) }
