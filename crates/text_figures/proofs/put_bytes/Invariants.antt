-- `put_bytes`: what is left of the bytes, laid over the present text, gives the whole.
use lib.ListN.{length, drop}
use mathlib.Core.Path.{◌≡◌}
use Prim.Native.Nat.{◌+◌}
use Rattle.surface_rules.specs.Buffers.{laid}
use Rattle.text_figures.proofs.put_bytes.Given as goal

abbrev pub invariant-loop-i : goal.invariant-loop-i
invariant-loop-i l = (length l.text ≡ length l.initial.text) × (laid l.at l.bytes l.initial.text ≡ laid (l.at + l.i) (drop l.i l.bytes) l.text)
