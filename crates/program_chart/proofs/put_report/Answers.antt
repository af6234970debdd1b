-- `put_report`: the line of a refusal, or the answer's line, and behind it the lines left, laid over the present buffer, give the whole.
use native.Mathlib.Omega.{arith}
use Rattle.program_chart.proofs.Laws.Telling.{entry_room, entry_put, refusal_put, whole_put, room_put, count_room, entries_begin, entries_end}
use Rattle.program_chart.proofs.put_report.Goals as goal

pub returns-in-Err : goal.returns-in-Err
returns-in-Err c = refusal_put _ _ _ c.in-Err.is c.put_answer.ensures.out_value.0 c.put_answer.ensures.out_value.1

pub put_line-place-requires : goal.put_line-place-requires
put_line-place-requires c =
    let a = c.put_answer-at.ensures.out_value in
    count_room _ _ _ a.0 a.1 (room_put _ _ _ c.in-Ok.is c.requires.entries_in_bounds)

pub loop-i-init : goal.loop-i-init
loop-i-init c =
    let a = c.put_answer-at.ensures.out_value in
    entries_begin _ _ _ a.0 a.1 (room_put _ _ _ c.in-Ok.is c.requires.entries_in_bounds) c.put_line-place.ensures

pub put_line-place-requires-in-loop-i : goal.put_line-place-requires-in-loop-i
put_line-place-requires-in-loop-i c = entry_room _ _ _ c.loop-i.invariant c.loop-i-test.true c.entry_at-entry.ensures

pub loop-i-preserved : goal.loop-i-preserved
loop-i-preserved c = entry_put _ _ _ c.loop-i.invariant c.loop-i-test.true c.entry_at-entry.ensures c.put_line-place-in-loop-i.ensures

pub returns : goal.returns
returns c =
    let a = c.put_answer-at.ensures.out_value in
    whole_put _ _ _ c.in-Ok.is (entries_end _ _ _ a.0 a.1 c.put_line-place.ensures c.loop-i.invariant (omega (arith, c.loop-i-test.false)))
