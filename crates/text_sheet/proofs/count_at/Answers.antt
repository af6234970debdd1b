-- `count_at` reads a key, and a number behind it.
use Rattle.text_sheet.proofs.Laws.Told.{count_not, count_is}
use Rattle.text_sheet.proofs.count_at.Goals as goal

pub returns-in_err-i : goal.returns-in_err-i
returns-in_err-i c = rw c.from_residual.ensures (count_not c.args.text.now _ _ c.args.at c.in_err-i.ensures, tt)

pub returns : goal.returns
returns c = (count_is c.args.text.now _ _ c.args.at c.in_ok-i.i c.in_ok-i.ensures c.decimal_at.ensures.0, c.decimal_at.ensures.1)
