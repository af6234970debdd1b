-- `put_decimal_ended` lays the last digits of the four, as many as the number has.
use Prim.Native.Nat.{◌<◌}
use native.Mathlib.Omega.{arith}
use Rattle.text_digits.proofs.Laws.Sizes.{size_three, size_four}
use Rattle.text_figures.proofs.Laws.Fours.{put_three, put_four_ended}
use Rattle.text_figures.proofs.put_decimal_ended.Goals as goal

pub put_four-requires : goal.put_four-requires
put_four-requires c = omega (arith, size_three _ c.if-n-lt100.false c.if-n-lt1000.true)

pub returns-then-n-lt1000 : goal.returns-then-n-lt1000
returns-then-n-lt1000 c = let b : c.args.end < 256 = omega arith in (search (put_three, c.requires, b, c.if-n-lt100, c.if-n-lt1000, c.put_four), omega (arith, size_three _ c.if-n-lt100.false c.if-n-lt1000.true))

pub put_four-requires-2 : goal.put_four-requires-2
put_four-requires-2 c = omega (arith, size_four _ c.if-n-lt1000.false c.requires.0)

pub bounds-text-at : goal.bounds-text-at
bounds-text-at c = omega (arith, size_four _ c.if-n-lt1000.false c.requires.0)

pub returns : goal.returns
returns c = let b : c.args.end < 256 = omega arith in (search (put_four_ended, c.requires, b, c.if-n-lt1000, c.put_four-2), omega (arith, size_four _ c.if-n-lt1000.false c.requires.0))
