-- `float_of` casts the bits of a number, and all other bits are one float's.
use native.Mathlib.Omega.{arith}
use Rattle.stl_facets.proofs.Laws.{is_nan_lem, no_nan}
use Rattle.stl_facets.proofs.float_of.Goals as goal

pub returns-then-word-gt2139095040 : goal.returns-then-word-gt2139095040
unfolding lib.Ieee.div lib.Ieee.of_bits
returns-then-word-gt2139095040 c = is_nan_lem c.args.word (omega (arith, c.if-word-gt2139095040.true))

pub float_from_bits-result : goal.float_from_bits-result
float_from_bits-result c = no_nan c.args.word (omega (arith, c.if-word-gt2139095040.false))
