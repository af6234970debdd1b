-- `cut` lists the part of the path behind the loops that were listed.
use Rattle.loop_cut.proofs.Laws.Cuts.{was_cut}
use Rattle.loop_cut.proofs.cut.Goals as goal

pub returns : goal.returns
returns c = search was_cut
