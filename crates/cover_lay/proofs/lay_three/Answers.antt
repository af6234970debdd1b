-- `lay_three` lays the only triangle, and weighs it by its points.
use Rattle.cover_lay.proofs.Laws.Patches.{lays_three}
use Rattle.cover_lay.proofs.lay_three.Goals as goal

pub returns : goal.returns
returns c = search lays_three
