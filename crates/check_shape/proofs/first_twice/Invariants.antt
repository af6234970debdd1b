-- `first_twice` looks from the start, and nothing is found before what it answers.
use mathlib.Core.Path.{◌≡◌}
use Rattle.std.specs.Prelude.{None}
use Rattle.surface_rules.specs.Smallest.{least}
use Rattle.surface_rules.specs.Edges.{twice}
use Rattle.check_shape.proofs.first_twice.Given as goal

abbrev pub invariant-loop-t : goal.invariant-loop-t
invariant-loop-t l = least (twice l.corners) l.t ≡ None
