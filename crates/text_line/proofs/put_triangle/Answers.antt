-- `put_triangle` lays two bytes and three corners, each behind the last.
use native.Mathlib.Omega.{arith}
use Rattle.text_line.proofs.Laws.Rows.{row_room, triangle_laid}
use Rattle.text_line.proofs.put_triangle.Goals as goal

pub bounds-buffer-at : goal.bounds-buffer-at
bounds-buffer-at c = omega (arith, row_room {i = c.args.a} {j = c.args.b} {n = c.args.c} {at = c.args.at} {text = c.args.buffer.now})

pub bounds-buffer-at-2 : goal.bounds-buffer-at-2
bounds-buffer-at-2 c = omega (arith, row_room {i = c.args.a} {j = c.args.b} {n = c.args.c} {at = c.args.at} {text = c.args.buffer.now})

pub put_decimal_ended-i-requires : goal.put_decimal_ended-i-requires
put_decimal_ended-i-requires c = (c.requires.has.0.short, c.requires.has.0.four, omega (arith, row_room {i = c.args.a} {j = c.args.b} {n = c.args.c} {at = c.args.at} {text = c.args.buffer.now}))

pub put_decimal_ended-j-requires : goal.put_decimal_ended-j-requires
put_decimal_ended-j-requires c = (c.requires.has.1.short, c.requires.has.1.four, omega (arith, row_room {i = c.args.a} {j = c.args.b} {n = c.args.c} {at = c.args.at} {text = c.args.buffer.now}))

pub put_decimal_ended-requires : goal.put_decimal_ended-requires
put_decimal_ended-requires c = (c.requires.has.2.short, c.requires.has.2.four, omega (arith, row_room {i = c.args.a} {j = c.args.b} {n = c.args.c} {at = c.args.at} {text = c.args.buffer.now}))

pub returns : goal.returns
returns c = (
  search (triangle_laid, c.requires, c.put_decimal_ended-i, c.put_decimal_ended-j, c.put_decimal_ended),
  omega (arith, row_room {i = c.args.a} {j = c.args.b} {n = c.args.c} {at = c.args.at} {text = c.args.buffer.now}, c.put_decimal_ended-i.ensures.1, c.put_decimal_ended-j.ensures.1, c.put_decimal_ended.ensures.1),
)
