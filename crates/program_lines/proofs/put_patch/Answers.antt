-- `put_patch`: the lines left, laid over the present buffer, give the whole.
use native.Mathlib.Omega.{arith}
use Rattle.program_lines.proofs.Laws.Patches.{patch_room, patch_put, patch_over}
use Rattle.program_lines.proofs.put_patch.Goals as goal

pub put_line-place-requires : goal.put_line-place-requires
put_line-place-requires c = patch_room _ _ c.loop-i.invariant c.loop-i-test.true

pub loop-i-preserved : goal.loop-i-preserved
loop-i-preserved c = patch_put _ _ c.loop-i.invariant c.loop-i-test.true c.put_line-place.ensures

pub returns : goal.returns
returns c = patch_over c.args.patch.now c.loop-i.i c.loop-i.invariant (omega (arith, c.loop-i-test.false))
