-- `judge_three` asks for the state patched and for the one cover that there is.
use native.Mathlib.Omega.{arith}
use Rattle.judge_sight.proofs.Laws.Threes.{three_wrong, three_right, three_no_cover}
use Rattle.judge_sight.proofs.judge_three.Goals as goal

pub returns-then-state-ne-PATCHED : goal.returns-then-state-ne-PATCHED
returns-then-state-ne-PATCHED c = let x = c.args in three_wrong x.set.now x.at c.requires.0 c.if-state-ne-PATCHED.true

pub returns-then-is_against : goal.returns-then-is_against
returns-then-is_against c =
    let x = c.args in
    three_right x.set.now x.at c.requires.0 c.if-state-ne-PATCHED.false (omega (arith, c.if-set-at-lt3.false, c.requires.1)) (rw c.if-is_against.true at c.is_against.ensures)

pub returns : goal.returns
returns c =
    let x = c.args in
    three_no_cover x.set.now x.at c.requires.0 c.if-state-ne-PATCHED.false (omega (arith, c.if-set-at-lt3.false, c.requires.1)) (rw c.if-is_against.false at c.is_against.ensures)
