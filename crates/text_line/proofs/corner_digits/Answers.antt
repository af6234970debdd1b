-- `corner_digits`: after some turns the digits of as many corners are summed.
use native.Mathlib.Omega.{arith}
use Rattle.text_line.proofs.Laws.Sizes.{sum_more, sum_ends, size_few}
use Rattle.text_line.proofs.corner_digits.Goals as goal

pub overflow_add-sum : goal.overflow_add-sum
overflow_add-sum c = omega (arith, size_few (c.type_inv.corners c.loop-c.c-index) c.corner_size-sum.ensures, c.loop-c.invariant)

pub loop-c-preserved : goal.loop-c-preserved
loop-c-preserved c = sum_more c.loop-c.invariant c.loop-c-test.true c.corner_size-sum.ensures (size_few (c.type_inv.corners c.loop-c.c-index) c.corner_size-sum.ensures)

pub returns : goal.returns
returns c = search sum_ends
