-- `first_short` looks from the start, and nothing is found before what it answers.
use mathlib.Core.Path.{◌≡◌}
use Rattle.std.specs.Prelude.{None}
use Rattle.surface_rules.specs.Smallest.{least}
use Rattle.surface_rules.specs.Refusals.{short}
use Rattle.check_shape.proofs.first_short.Given as goal

abbrev pub invariant-loop-i : goal.invariant-loop-i
invariant-loop-i l = least (short l.lent l.needs) l.i ≡ None
