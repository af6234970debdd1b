-- `clear_sides` takes row after row's position and neighbours out, the two ends apart.
use Rattle.cover_bars.proofs.Laws.Sides.{sides_begin, sides_more, sides_end}
use Rattle.cover_bars.proofs.clear_sides.Goals as goal

pub loop-j-init : goal.loop-j-init
loop-j-init c = sides_begin c.args.rows.now c.requires.0 c.requires.1 c.requires.2

pub loop-j-preserved : goal.loop-j-preserved
loop-j-preserved c = search sides_more

pub returns : goal.returns
returns c = search sides_end
