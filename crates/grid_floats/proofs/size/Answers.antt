-- `size` reads and writes bits that are no NaN's, and what it reads back is the float without its sign.
use Rattle.grid_floats.proofs.Laws.Clearing.{whole_number, size_number}
use mathlib.Core.Path.{refl}
use Rattle.grid_floats.specs.Workings.Whole.{size_of}
use Rattle.grid_floats.proofs.size.Goals as goal

pub float_to_bits-result : goal.float_to_bits-result
float_to_bits-result c = whole_number _ _ c.requires.1

pub float_from_bits-result : goal.float_from_bits-result
float_from_bits-result c = size_number _ _ c.requires.1

pub returns : goal.returns
unfolding size_of
returns c = refl
