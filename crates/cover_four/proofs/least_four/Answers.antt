-- `least_four` weighs the cover that is taken, or tells that neither is allowed.
use Rattle.cover_four.proofs.Laws.Fours.{least_none, least_one, least_two}
use Rattle.cover_four.proofs.least_four.Goals as goal

pub returns-in_err-goes_by_two : goal.returns-in_err-goes_by_two
returns-in_err-goes_by_two c = rw c.from_residual.ensures (least_none c.requires c.in_err-goes_by_two.ensures)

pub returns-then-branch : goal.returns-then-branch
returns-then-branch c = least_two c.requires c.in_ok-goes_by_two.ensures c.if-branch.true c.by_two.ensures

pub returns : goal.returns
returns c = least_one c.requires c.in_ok-goes_by_two.ensures c.if-branch.false c.by_one.ensures
