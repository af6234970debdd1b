-- `judge_loop` goes by how long the loop is.
use mathlib.Core.Path.{◌≡◌}
use mathlib.Core.Logic.{◌⊎◌, inl, inr}
use Prim.Native.Nat.{◌<◌}
use lib.ListN.{length}
use Rattle.base_limits.specs.Limits.{longest}
use Rattle.std.proofs.lemmas.Result.{err_from_is_err_and}
use Rattle.fill_scratch.proofs.Laws.Sights.{told_long}
use Rattle.judge_loop.proofs.Laws.Judging.{sight_faulty, sight_right}
use Rattle.judge_loop.proofs.judge_loop.Goals as goal
use Rattle.judge_loop.proofs.judge_loop.Goals.{then-n-eq3-via-then-n-eq3, then-n-eq3-via-else-n-eq3+then-is_long}

pub returns-in_err-judge_at_sight : goal.returns-in_err-judge_at_sight
returns-in_err-judge_at_sight c =
    let p = err_from_is_err_and c.from_residual.result c.from_residual.ensures.1 in
    (search, rw (p.1, p.2) (sight_faulty c.in_err-judge_at_sight.ensures))

pub returns-then-n-eq3 : goal.returns-then-n-eq3
returns-then-n-eq3 c =
    let sight : (length c.args.ring.now ≡ 3) ⊎ (longest < length c.args.ring.now) = elim c.then-n-eq3.branch [
      | then-n-eq3-via-then-n-eq3 w ↦ inl w.if-n-eq3.true
      | then-n-eq3-via-else-n-eq3+then-is_long w ↦ inr (told_long w.of.ensures w.is_long.ensures w.if-is_long.true)
    ] in
    (search, sight_right sight c.in_ok-judge_at_sight.ensures)
