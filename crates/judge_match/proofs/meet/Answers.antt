-- What or and and make of digits.
use Rattle.judge_match.proofs.Laws.Meets.{meet_is}
use Rattle.judge_match.proofs.meet.Goals as goal

pub returns : goal.returns
returns c = meet_is _ _ _ c.ranges.both c.ranges.row c.ranges.bar
