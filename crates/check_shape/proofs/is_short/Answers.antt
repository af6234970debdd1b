-- `is_short` compares, and takes a buffer that is not lent for an empty one.
use Rattle.surface_rules.specs.Refusals.{short}
use lib.ListN.{get_or-eq_default}
use borrow.Author.Rules.{rules}
use Rattle.check_shape.proofs.is_short.Goals as goal

pub returns-then-i-lent : goal.returns-then-i-lent
unfolding short
returns-then-i-lent c = search rules

pub returns : goal.returns
unfolding short
returns c = simp (get_or-eq_default c.args.lent.now 0 {n = c.args.i} c.if-i-lent.false)
