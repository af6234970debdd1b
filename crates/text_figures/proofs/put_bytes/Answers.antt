-- `put_bytes`: what is left of the bytes, laid over the present text, gives the whole.
use lib.ListN.{length-set}
use mathlib.Core.Path.{refl}
use native.Mathlib.Omega.{arith}
use Rattle.text_digits.proofs.Laws.Lay.{bytes_begin, bytes_more, bytes_end}
use Rattle.text_figures.proofs.put_bytes.Goals as goal

pub loop-i-init : goal.loop-i-init
loop-i-init c = (refl, bytes_begin _ _ _)

pub loop-i-preserved : goal.loop-i-preserved
loop-i-preserved c = (
  rw length-set c.loop-i.invariant.0,
  bytes_more _ _ _ _ _ c.loop-i-test.true (omega (arith, c.requires, c.loop-i.invariant.0)) c.loop-i.invariant.1,
)

pub returns : goal.returns
returns c = search bytes_end
