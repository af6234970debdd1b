-- `number_points`: after some turns the table has the digits of as many numbers.
use mathlib.Core.Path.{refl, ◌∙◌}
use native.Mathlib.Omega.{arith}
use lib.ListN.{length-set}
use Rattle.text_write.proofs.Laws.Fours.{number_none, number_more}
use Rattle.text_write.proofs.number_points.Goals as goal

pub loop-i-init : goal.loop-i-init
loop-i-init c = (refl, number_none _)

pub loop-i-preserved : goal.loop-i-preserved
loop-i-preserved c = (
  length-set c.loop-i.fours c.loop-i.i c.four_of.result ∙ c.loop-i.invariant.0,
  number_more _ _ _ (omega (arith, c.loop-i.invariant.0, c.requires.1)) (omega arith) c.four_of.ensures c.loop-i.invariant.1,
)
