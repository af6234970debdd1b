-- `first_unnamed` seeks only where the quick pass met something.
use Rattle.std.proofs.Common.{leb, sym, ◌∙◌}
use borrow.Author.Tests.{not-true}
use Rattle.surface_rules.specs.Refusals.{unnamed}
use Rattle.surface_rules.proofs.Laws.Smallest.{any_none}
use Rattle.surface_rules.proofs.Laws.Positions.{position_least}
use Rattle.check_shape.proofs.first_unnamed.Goals as goal

pub returns-then-all_named : goal.returns-then-all_named
returns-then-all_named c = sym (any_none _ (not-true _ (sym c.all_named.ensures ∙ c.if-all_named.true)))

pub returns : goal.returns
unfolding unnamed
returns c = c.seek_unnamed.ensures ∙ position_least (leb c.args.points) c.args.corners.now
