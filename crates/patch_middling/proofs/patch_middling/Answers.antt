-- `patch_middling` finds the bars, and by them the patch; what was laid is chained.
use native.Mathlib.Omega.{arith}
use Rattle.patch_middling.proofs.Laws.Middling.{bars_room, patch_room, takes_none, laid_room, takes_some}
use Rattle.patch_middling.proofs.patch_middling.Goals as goal

pub bars_of-requires : goal.bars_of-requires
bars_of-requires c = bars_room c.requires

pub lay_patch-requires : goal.lay_patch-requires
lay_patch-requires c = patch_room c.requires c.bars_of.ensures

pub overflow_sub-end : goal.overflow_sub-end
overflow_sub-end c = omega (arith, c.requires.0.ring_of.three)

pub overflow_add-end : goal.overflow_add-end
overflow_add-end c = omega (arith, c.requires.0.patches_room, c.well_formed)

pub chain_laid-edges-requires : goal.chain_laid-edges-requires
chain_laid-edges-requires c = laid_room c.requires c.bars_of.ensures c.lay_patch.ensures c.in-Some.is

pub returns-in_default : goal.returns-in_default
returns-in_default c = (search, takes_none c.requires c.bars_of.ensures c.lay_patch.ensures c.in_default.is c.unpatched.ensures)

pub returns : goal.returns
returns c = (search, takes_some c.requires c.bars_of.ensures c.lay_patch.ensures c.in-Some.is c.chain_laid-edges.ensures.1)
