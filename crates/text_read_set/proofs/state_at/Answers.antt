-- `state_at` reads a line `s=` as a count is read.
use Rattle.text_sheet.proofs.Laws.Told.{count_not, count_is}
use Rattle.text_read_set.proofs.state_at.Goals as goal

pub returns-in_err-i : goal.returns-in_err-i
returns-in_err-i c = rw c.from_residual.ensures (count_not c.args.text.now _ _ c.args.at c.in_err-i.ensures, tt)

pub returns : goal.returns
returns c = (count_is c.args.text.now _ _ c.args.at c.in_ok-i.i c.in_ok-i.ensures c.decimal_at.ensures.0, c.decimal_at.ensures.1)
