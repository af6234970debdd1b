-- `put_count` lays the key, and the count behind it.
use native.Mathlib.Omega.{arith}
use borrow.Author.Rules.{rules}
use Rattle.text_sheet.proofs.Laws.Sizes.{count_length}
use Rattle.text_line.proofs.Laws.Rows.{count_laid}
use Rattle.text_line.proofs.put_count.Goals as goal

pub put_bytes-requires : goal.put_bytes-requires
put_bytes-requires c = omega (arith, count_length c.args.key.now c.args.n)

pub put_decimal_ended-requires : goal.put_decimal_ended-requires
put_decimal_ended-requires c = (search rules, c.four_of.ensures, omega (arith, count_length c.args.key.now c.args.n))

pub returns : goal.returns
returns c = (
  search (count_laid, c.requires, c.put_bytes, c.put_decimal_ended),
  omega (arith, count_length c.args.key.now c.args.n, c.put_decimal_ended.ensures.1),
)
