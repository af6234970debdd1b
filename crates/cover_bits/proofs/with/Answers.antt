-- `with` has the digits of the row and that of 1 << k, which is k alone.
use Rattle.base_limits.specs.Limits.{longest}
use Rattle.cover_bits.proofs.Laws.Masks.{with_bit}
use Rattle.cover_bits.proofs.with.Goals as goal

pub returns : goal.returns
returns c = λ j l. with_bit longest _ _ j l
