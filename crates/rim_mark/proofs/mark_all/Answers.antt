-- `mark_all` marks one loop that begins on triangle 0 by itself, and more by `mark_counted`.
use native.Mathlib.Omega.{arith}
use Rattle.rim_mark.proofs.Laws.Marking.{homes_long, all_none, all_one}
use Rattle.rim_mark.proofs.mark_all.Goals as goal

pub returns-then-n-eq0 : goal.returns-then-n-eq0
returns-then-n-eq0 c = all_none c.requires.found _ _ _ c.if-n-eq0.true

pub bounds-pieces-0 : goal.bounds-pieces-0
bounds-pieces-0 c = omega (arith, homes_long c.requires.found c.requires.pieces_long, c.if-n-eq1.true)

pub returns-then-firsts-lt3 : goal.returns-then-firsts-lt3
returns-then-firsts-lt3 c = all_one c.requires.found c.measure_all.ensures c.args.pieces.now c.args.marks.now (omega (arith, homes_long c.requires.found c.requires.pieces_long, c.if-n-eq1.true)) c.requires.marks_long c.if-n-eq1.true c.if-firsts-lt3.true
