-- Three numbers are read from where the point's coordinates stand.
use Rattle.cover_weight.proofs.Laws.Named.{point_is}
use Rattle.cover_weight.proofs.point_at.Goals as goal

pub returns : goal.returns
returns c = search point_is
