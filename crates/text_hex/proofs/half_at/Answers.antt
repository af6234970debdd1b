-- `half_at` sums the weights of four bytes, which fit.
use native.Mathlib.Omega.{arith}
use Rattle.text_hex.proofs.Laws.Marks.{four, half_is}
use Rattle.text_hex.proofs.half_at.Goals as goal

pub overflow_add-result-2 : goal.overflow_add-result-2
overflow_add-result-2 c = omega (arith, four c.requires.1 {at = c.args.at} c.type_inv.text)

pub overflow_mul-result : goal.overflow_mul-result
overflow_mul-result c = omega (arith, four c.requires.1 {at = c.args.at} c.type_inv.text)

pub overflow_add-result-4 : goal.overflow_add-result-4
overflow_add-result-4 c = omega (arith, four c.requires.1 {at = c.args.at} c.type_inv.text)

pub overflow_add-result-5 : goal.overflow_add-result-5
overflow_add-result-5 c = omega (arith, four c.requires.1 {at = c.args.at} c.type_inv.text)

pub returns : goal.returns
returns c = half_is c.requires.1 (four c.requires.1 c.type_inv.text)
