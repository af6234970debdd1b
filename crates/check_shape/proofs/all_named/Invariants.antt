-- `all_named` keeps in `all` whether nothing was met so far.
use mathlib.Core.Path.{◌≡◌}
use mathlib.Core.Bool.{not}
use Rattle.surface_rules.specs.Smallest.{least, any}
use Rattle.surface_rules.specs.Refusals.{unnamed}
use Rattle.check_shape.proofs.all_named.Given as goal

abbrev pub invariant-loop-corner : goal.invariant-loop-corner
invariant-loop-corner l = l.all ≡ not (any (least (unnamed l.corners l.points) l.corner-index))
