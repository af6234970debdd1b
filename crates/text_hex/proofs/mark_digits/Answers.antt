-- `mark_digits`: after some turns the digits below d are marked.
use mathlib.Core.Path.{refl}
use Rattle.text_hex.proofs.Laws.Marks.{mark_more}
use Rattle.text_hex.proofs.mark_digits.Goals as goal

pub loop-d-preserved : goal.loop-d-preserved
loop-d-preserved c = mark_more c.loop-d-test.true c.byte_of-b.ensures refl refl c.loop-d.invariant
