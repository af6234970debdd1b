-- `patch_loop` goes by how long the loop is.
use native.Mathlib.Omega.{arith}
use Rattle.fill_scratch.proofs.Laws.Sights.{told_long, told_short}
use Rattle.patch_loop.proofs.Laws.Takes.{three_of, takes_three, takes_long}
use Rattle.patch_loop.proofs.patch_loop.Goals as goal

pub patch_three-requires : goal.patch_three-requires
patch_three-requires c = search (three_of, c.requires)

pub returns-then-n-eq3 : goal.returns-then-n-eq3
returns-then-n-eq3 c = search takes_three

pub returns-then-is_long : goal.returns-then-is_long
returns-then-is_long c = search (takes_long, told_long)

pub patch_middling-requires : goal.patch_middling-requires
patch_middling-requires c = (c.requires, told_short c.of.ensures c.is_long.ensures c.if-is_long.false, omega (arith, c.if-n-eq3.false, c.requires.ring_of.three))
