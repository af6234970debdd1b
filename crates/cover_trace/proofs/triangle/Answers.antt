-- `triangle` reads inside the table, and what it takes the size of are whole numbers.
use Rattle.cover_trace.proofs.Laws.Tries.{triangle_is}
use Rattle.cover_trace.proofs.triangle.Goals as goal

pub returns : goal.returns
returns c = search triangle_is
