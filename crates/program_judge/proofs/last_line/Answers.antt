-- `last_line` counts one more where there is a head.
use native.Mathlib.Omega.{arith}
use Rattle.program_judge.proofs.Laws.Sheets.{head_one, head_other}
use Rattle.program_judge.proofs.last_line.Goals as goal

pub overflow_cast-lines : goal.overflow_cast-lines
overflow_cast-lines c = omega (arith, c.requires.0, c.requires.1)

pub returns-then-pitch-eq1 : goal.returns-then-pitch-eq1
returns-then-pitch-eq1 c = omega (arith, head_one _ c.if-pitch-eq1.true)

pub overflow_add-result : goal.overflow_add-result
overflow_add-result c = omega (arith, c.requires.0, c.requires.1)

pub returns : goal.returns
returns c = omega (arith, head_other _ c.if-pitch-eq1.false)
