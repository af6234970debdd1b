-- `nearest` adds, and the sum's rounding is the one to the nearest whole number.
use mathlib.Core.Path.{refl}
use native.Mathlib.Omega.{arith}
use lib.Dec.{lit≤}
use Rattle.grid_coordinate.proofs.Laws.Floats.{number}
use Rattle.grid_coordinate.proofs.Laws.Coordinates.{lifted_whole, lowered_fits, found}
use Rattle.grid_coordinate.proofs.nearest.Goals as goal

pub float_from_bits-result : goal.float_from_bits-result
float_from_bits-result c = number _ (λ e. absurd (omega (arith, c.requires)))

pub float_to_int-result : goal.float_to_int-result
float_to_int-result c = lifted_whole _ c.requires _ refl (lit≤ tt) (lit≤ tt)

pub overflow_sub-result : goal.overflow_sub-result
overflow_sub-result c = lowered_fits _ c.requires _ refl (lit≤ tt) (lit≤ tt)

pub returns : goal.returns
returns c = found _ c.requires _ refl (lit≤ tt) (lit≤ tt)
