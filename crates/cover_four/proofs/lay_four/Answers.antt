-- `lay_four` lays the two triangles of the cover that is taken, or nothing where neither is allowed.
use Rattle.cover_four.proofs.Laws.Fours.{four_none, four_one, four_two}
use Rattle.cover_four.proofs.lay_four.Goals as goal

pub returns-in_err-goes_by_two : goal.returns-in_err-goes_by_two
returns-in_err-goes_by_two c = rw c.from_residual.ensures (four_none c.requires c.in_err-goes_by_two.ensures)

pub returns-then-branch : goal.returns-then-branch
returns-then-branch c = four_two c.requires c.in_ok-goes_by_two.ensures c.if-branch.true c.lay.ensures c.lay-then-branch.ensures c.by_two.ensures

pub returns : goal.returns
returns c = four_one c.requires c.in_ok-goes_by_two.ensures c.if-branch.false c.lay-2.ensures c.lay-3.ensures c.by_one.ensures
