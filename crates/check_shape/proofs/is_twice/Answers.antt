-- `is_twice` compares the three pairs.
use Rattle.std.proofs.Common.{rules}
use Rattle.surface_rules.specs.Edges.{twice}
use Rattle.check_shape.proofs.is_twice.Goals as goal

pub returns : goal.returns
unfolding twice
returns c = search rules
