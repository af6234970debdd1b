-- `last_at` reads a line near the end of the text, number by number.
use Rattle.text_sheet.proofs.Laws.Told.{row_key, row_first, row_second, row_third, row_whole}
use Rattle.text_sheet.proofs.last_at.Goals as goal

pub returns-in_err-i : goal.returns-in_err-i
returns-in_err-i c = rw c.from_residual.ensures (row_key c.args.text.now _ _ _ c.args.at c.in_err-i.ensures, tt)

pub returns-in_err-a : goal.returns-in_err-a
returns-in_err-a c = rw c.from_residual-in_err-a.ensures (row_first c.args.text.now _ _ _ c.args.at _ c.in_ok-i.ensures c.in_err-a.ensures.0, tt)

pub returns-in_err-b : goal.returns-in_err-b
returns-in_err-b c =
    rw c.from_residual-in_err-b.ensures
    (row_second c.args.text.now _ _ _ c.args.at c.in_ok-i.i c.in_ok-i.ensures _ c.in_ok-a.j c.in_ok-a.ensures.0 c.in_err-b.ensures.0, tt)

pub returns-in_err-c : goal.returns-in_err-c
returns-in_err-c c =
    rw c.from_residual-in_err-c.ensures
    (row_third c.args.text.now _ _ _ c.args.at c.in_ok-i.i c.in_ok-i.ensures _ c.in_ok-a.j c.in_ok-a.ensures.0 _ c.in_ok-b.k c.in_ok-b.ensures.0 c.in_err-c.ensures.0, tt)

pub returns : goal.returns
returns c = (
  row_whole c.args.text.now _ _ _ c.args.at c.in_ok-i.i c.in_ok-i.ensures _ c.in_ok-a.j c.in_ok-a.ensures.0 _ c.in_ok-b.k c.in_ok-b.ensures.0 _ c.in_ok-c.next c.in_ok-c.ensures.0,
  c.in_ok-c.ensures.1,
)
