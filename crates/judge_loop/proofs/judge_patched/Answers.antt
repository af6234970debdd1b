-- `judge_patched` finds the bars, and by them what the part is; a right one is chained.
use Rattle.std.proofs.lemmas.Result.{err_from_is_err_and}
use Rattle.judge_loop.proofs.Laws.Judging.{cover_room, patched_faulty, patched_right}
use Rattle.judge_loop.proofs.judge_patched.Goals as goal

pub judge_cover-requires : goal.judge_cover-requires
judge_cover-requires c = cover_room c.requires.0 c.bars_of.ensures c.requires.1

pub returns-in_err-judge_cover : goal.returns-in_err-judge_cover
returns-in_err-judge_cover c =
    let p = err_from_is_err_and c.from_residual.result c.from_residual.ensures.1 in
    (search, rw (p.1, p.2) (patched_faulty c.requires.0 c.bars_of.ensures c.requires.1 c.in_err-judge_cover.ensures))

pub returns : goal.returns
returns c = (search, patched_right c.requires.0 c.bars_of.ensures c.requires.1 c.in_ok-judge_cover.ensures c.chain_cover.ensures.1)
