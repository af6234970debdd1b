-- `patch_all` takes the tray only where a loop needs it, with a table that serves.
use native.Mathlib.Omega.{arith}
use Rattle.fill_scratch.proofs.Laws.Tables.{serves_short, serves_all}
use Rattle.patch_all.proofs.patch_all.Goals as goal

pub patch_tabled-requires-then-most-le-SHORT-clause-serves : goal.patch_tabled-requires-then-most-le-SHORT-clause-serves
patch_tabled-requires-then-most-le-SHORT-clause-serves c = λ table e. serves_short _ _ table _ c.longest_middling-most.ensures c.if-most-le-SHORT.true (omega (arith, e))

pub patch_tabled-requires-else-most-le-SHORT-clause-serves : goal.patch_tabled-requires-else-most-le-SHORT-clause-serves
patch_tabled-requires-else-most-le-SHORT-clause-serves c = λ table e. serves_all _ _ table (omega (arith, e))
