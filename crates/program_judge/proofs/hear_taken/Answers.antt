-- `hear_taken` tells the wrong line of the sheet, then the wrong line of the set, and judges no more than was taken in.
use Rattle.surface_rules.proofs.Laws.Lists.{as_long}
use Rattle.program_judge.proofs.Laws.Sheets.{wrong_heard, words_small, corners_small, words_within, corners_within, states_within, parts_within, words_few, corners_few, refused_heard, judged_heard}
use Rattle.program_judge.proofs.hear_taken.Goals as goal

pub returns-in-Err : goal.returns-in-Err
returns-in-Err c = search wrong_heard

pub returns-in-Err-set : goal.returns-in-Err-set
returns-in-Err-set c = search refused_heard

pub overflow_mul-w : goal.overflow_mul-w
overflow_mul-w c = search words_small

pub overflow_mul-c : goal.overflow_mul-c
overflow_mul-c c = search corners_small

pub slice_bounds-judge-end : goal.slice_bounds-judge-end
slice_bounds-judge-end c = search (as_long, words_within)

pub slice_bounds-judge-end-2 : goal.slice_bounds-judge-end-2
slice_bounds-judge-end-2 c = search (as_long, corners_within)

pub slice_bounds-judge-end-3 : goal.slice_bounds-judge-end-3
slice_bounds-judge-end-3 c = search (as_long, states_within)

pub slice_bounds-judge-end-4 : goal.slice_bounds-judge-end-4
slice_bounds-judge-end-4 c = search (as_long, parts_within)

pub judge-requires : goal.judge-requires
judge-requires c = (search words_few, search corners_few)

pub returns : goal.returns
returns c = search judged_heard
