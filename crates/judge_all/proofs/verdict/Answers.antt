-- `verdict` takes the tray and a table only where a loop needs them.
use native.Mathlib.Omega.{arith}
use Prim.Native.Nat.{◌≤◌}
use lib.Ieee.{Float}
use lib.ListN.{length, replicate, length-replicate}
use Rattle.cover_column.specs.Workings.Columns.{nought_float}
use Rattle.fill_scratch.proofs.Laws.Tables.{serves_short, serves_whole}
use Rattle.judge_all.proofs.verdict.Goals as goal

pub verdict_with-requires-then-most-le-SHORT : goal.verdict_with-requires-then-most-le-SHORT
verdict_with-requires-then-most-le-SHORT c =
    let x = c.args in
    let long : 480 ≤ length (replicate 480 nought_float) = omega (arith, length-replicate {A = Float} 480 nought_float) in
    (c.requires.0, c.requires.1, serves_short x.lengths.now x.marks.now (replicate 480 nought_float) _ c.longest_middling-most.ensures c.if-most-le-SHORT.true long, omega arith)

pub verdict_with-requires-2 : goal.verdict_with-requires-2
verdict_with-requires-2 c = (c.requires.0, c.requires.1, serves_whole c.args.lengths.now c.args.marks.now nought_float, omega arith)
