-- `size_of` compares with the units.
use mathlib.Core.Path.{sym}
use Rattle.text_digits.proofs.Laws.Sizes.{size_two, size_three, size_four, size_five}
use Rattle.text_digits.proofs.Laws.Digit.{size_one}
use Rattle.text_digits.proofs.size_of.Goals as goal

pub returns-then-n-lt10 : goal.returns-then-n-lt10
returns-then-n-lt10 c = sym (size_one _ c.if-n-lt10.true)

pub returns-then-n-lt100 : goal.returns-then-n-lt100
returns-then-n-lt100 c = size_two _ c.if-n-lt10.false c.if-n-lt100.true

pub returns-then-n-lt1000 : goal.returns-then-n-lt1000
returns-then-n-lt1000 c = size_three _ c.if-n-lt100.false c.if-n-lt1000.true

pub returns-then-n-lt10000 : goal.returns-then-n-lt10000
returns-then-n-lt10000 c = size_four _ c.if-n-lt1000.false c.if-n-lt10000.true

pub returns : goal.returns
returns c = search size_five
