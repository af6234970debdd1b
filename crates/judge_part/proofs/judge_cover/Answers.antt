-- `judge_cover` goes by what is read out of the part.
use Rattle.judge_part.proofs.Laws.Weighed.{match_none, match_barred, match_room, match_allowed}
use Rattle.judge_part.proofs.judge_cover.Goals as goal

pub judge_weight-requires : goal.judge_weight-requires
judge_weight-requires c = search match_room

pub returns-in-NoCover : goal.returns-in-NoCover
returns-in-NoCover c = search match_none

pub returns-in-Barred : goal.returns-in-Barred
returns-in-Barred c = search match_barred

pub returns-in-Allowed : goal.returns-in-Allowed
returns-in-Allowed c = search match_allowed
