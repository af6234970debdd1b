-- `size_of`: the digits counted and those left are all, with one counted ahead.
use mathlib.Core.Path.{◌≡◌}
use Prim.Native.Nat.{◌+◌}
use Rattle.text_digits.specs.Numeral as numeral
use Rattle.program_lines.proofs.size_of.Given as goal

abbrev pub invariant-loop-v : goal.invariant-loop-v
invariant-loop-v l = l.size + numeral.size l.v ≡ numeral.size l.n + 1

abbrev pub decreases-loop-v : goal.decreases-loop-v
decreases-loop-v l = l.v
