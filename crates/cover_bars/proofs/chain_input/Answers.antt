-- `chain_input` chains triangle after triangle, with all half-edges before them chained.
use native.Mathlib.Omega.{arith}
use Rattle.cover_bars.proofs.Laws.Inputs.{input_begins, input_ends, input_more}
use Rattle.cover_bars.proofs.chain_input.Goals as goal

pub loop-t-init : goal.loop-t-init
loop-t-init c = input_begins c.requires

pub loop-t-preserved : goal.loop-t-preserved
loop-t-preserved c = input_more c.loop-t.invariant (omega arith) c.chain.ensures c.chain-in-loop-t.ensures c.chain-in-loop-t-2.ensures (omega arith)

pub returns : goal.returns
returns c = input_ends c.loop-t.invariant (omega (arith, c.requires.triples))
