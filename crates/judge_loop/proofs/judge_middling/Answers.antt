-- `judge_middling` goes by the declared state.
use Rattle.std.proofs.lemmas.Result.{err_from_is_err_and}
use Rattle.judge_loop.proofs.Laws.Judging.{by_share}
use Rattle.judge_loop.proofs.judge_middling.Goals as goal

pub returns-then-hand-eq-OPEN : goal.returns-then-hand-eq-OPEN
returns-then-hand-eq-OPEN c = let (same, found) = c.in_ok-judge_open.ensures in (same, found c.if-hand-eq-OPEN.true _)

pub returns-in_err-judge_open : goal.returns-in_err-judge_open
returns-in_err-judge_open c =
    let p = err_from_is_err_and c.from_residual.result c.from_residual.ensures.1 in
    let (same, found) = c.in_err-judge_open.ensures in
    (same, rw (p.1, p.2) (found c.if-hand-eq-OPEN.true _))

pub returns : goal.returns
returns c = let (same, found) = c.judge_patched.ensures in (same, by_share (search) (search) found)
