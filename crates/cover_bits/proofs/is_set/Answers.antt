-- `is_set` shifts the digit to the lowest place, and the mask 1 leaves it alone.
use Rattle.cover_bits.proofs.Laws.Masks.{set_is}
use Rattle.cover_bits.proofs.is_set.Goals as goal

pub returns : goal.returns
returns c = set_is _ _
