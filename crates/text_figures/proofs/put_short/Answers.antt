-- `put_short` lays the last digit of the four, or the last two.
use Prim.Native.Nat.{◌<◌}
use native.Mathlib.Omega.{arith}
use lib.ListN.{length-set}
use Rattle.text_digits.proofs.Laws.Sizes.{size_two}
use Rattle.text_digits.proofs.Laws.Digit.{size_one}
use Rattle.text_figures.proofs.Laws.Fours.{put_one, put_two}
use Rattle.text_figures.proofs.put_short.Goals as goal

pub bounds-text-at-then-n-lt10 : goal.bounds-text-at-then-n-lt10
bounds-text-at-then-n-lt10 c = simp length-set (omega (arith, size_one _ c.if-n-lt10.true))

pub returns-then-n-lt10 : goal.returns-then-n-lt10
returns-then-n-lt10 c = let b : c.args.end < 256 = omega arith in (search put_one, omega (arith, size_one _ c.if-n-lt10.true))

pub bounds-text-at-3 : goal.bounds-text-at-3
bounds-text-at-3 c = simp length-set (omega (arith, size_two _ c.if-n-lt10.false c.requires.0))

pub bounds-text-at-4 : goal.bounds-text-at-4
bounds-text-at-4 c = simp length-set (omega (arith, size_two _ c.if-n-lt10.false c.requires.0))

pub returns : goal.returns
returns c = let b : c.args.end < 256 = omega arith in (search put_two, omega (arith, size_two _ c.if-n-lt10.false c.requires.0))
