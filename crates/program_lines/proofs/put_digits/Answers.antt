-- `put_digits`: the digits left, laid over the present buffer, give the whole.
use native.Mathlib.Omega.{arith}
use lib.ListN.{length-set}
use Rattle.program_lines.proofs.Laws.Digits.{digits_small, digits_more, digits_end}
use Rattle.program_lines.proofs.put_digits.Goals as goal

pub loop-k-preserved : goal.loop-k-preserved
loop-k-preserved c = (
  digits_small _ _ c.loop-k-test.true c.loop-k.invariant.0,
  rw length-set c.loop-k.invariant.1,
  digits_more _ _ _ _ _ c.loop-k-test.true c.loop-k.invariant.0 (omega arith) c.loop-k.invariant.2,
)

pub returns : goal.returns
returns c = digits_end _ _ _ _ _ (omega (arith, c.loop-k-test.false)) c.loop-k.invariant.2
