-- `chain_input` chains triangle after triangle, with all half-edges before them chained.
use Prim.Native.Nat.{◌*◌}
use Rattle.cover_bars.proofs.Laws.Inputs.{Inputting}
use Rattle.cover_bars.proofs.chain_input.Given as goal

abbrev pub invariant-loop-t : goal.invariant-loop-t
invariant-loop-t l = Inputting l.corners l.initial.heads l.initial.links l.initial.ends (3 * l.t) l.heads l.links l.ends
