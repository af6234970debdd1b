-- `row_of` squares no more than the longest loop, and no number is greater than its square.
use mathlib.Core.Path.{refl}
use native.Mathlib.Omega.{arith}
use Rattle.cover_column.specs.Workings.Columns.{row}
use Rattle.cover_column.proofs.Laws.Rows.{at_most_square, square_most}
use Rattle.cover_column.proofs.row_of.Goals as goal

pub overflow_mul-result : goal.overflow_mul-result
overflow_mul-result c = omega (arith, square_most _ c.requires)

pub overflow_sub-result : goal.overflow_sub-result
overflow_sub-result c = omega (arith, at_most_square c.args.k)

pub returns : goal.returns
unfolding row
returns c = refl
