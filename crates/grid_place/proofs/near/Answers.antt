-- `near` divides, and the sum's rounding is the one to the nearest multiple.
use mathlib.Core.Path.{refl}
use native.Mathlib.Omega.{arith}
use lib.Dec.{lit≤}
use Rattle.grid_coordinate.proofs.Laws.Floats.{number}
use Rattle.grid_place.proofs.Laws.Near.{result_whole, result_found, lift_value}
use Rattle.grid_place.proofs.near.Goals as goal

pub float_from_bits-result : goal.float_from_bits-result
float_from_bits-result c = number _ (λ e. absurd (omega (arith, c.requires.0, e)))

pub float_to_int-result : goal.float_to_int-result
float_to_int-result c = result_whole _ _ c.requires.0 c.requires.1 c.requires.2 _ _ lift_value refl (lit≤ tt) (lit≤ tt)

pub returns : goal.returns
returns c = result_found _ _ c.requires.0 c.requires.1 c.requires.2 _ _ lift_value refl (lit≤ tt) (lit≤ tt)
