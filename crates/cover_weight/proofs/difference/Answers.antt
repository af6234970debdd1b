-- Coordinates of the grid are small, so nothing wraps.
use Rattle.cover_weight.proofs.Laws.Apart.{widened_fits, difference_fits, difference_is}
use Rattle.cover_weight.proofs.difference.Goals as goal

pub overflow_cast-result : goal.overflow_cast-result
overflow_cast-result c = widened_fits c.args.b c.requires.0

pub overflow_cast-result-2 : goal.overflow_cast-result-2
overflow_cast-result-2 c = widened_fits c.args.a c.requires.1

pub overflow_sub-result : goal.overflow_sub-result
overflow_sub-result c = difference_fits c.args.b c.args.a c.requires

pub returns : goal.returns
returns c = difference_is c.args.b c.args.a c.requires
