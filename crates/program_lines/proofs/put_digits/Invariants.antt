-- `put_digits`: the digits left, laid over the present buffer, give the whole.
use mathlib.Core.Path.{◌≡◌}
use Prim.Native.Nat.{◌^◌, ◌<◌}
use lib.ListN.{length}
use Rattle.surface_rules.specs.Buffers.{laid}
use Rattle.text_digits.specs.Numeral.{places}
use Rattle.program_lines.proofs.put_digits.Given as goal

abbrev pub invariant-loop-k : goal.invariant-loop-k
invariant-loop-k l = (l.v < 10 ^ l.k) × (length l.out ≡ length l.initial.out) × (laid l.at (places 10 l.size l.n) l.initial.out ≡ laid l.at (places 10 l.k l.v) l.out)
