-- `is_off` goes by the order of the bits.
use Rattle.grid_place.proofs.Laws.Ends.{off_bits}
use Rattle.grid_place.proofs.is_off.Goals as goal

pub returns : goal.returns
returns c = off_bits _ _
