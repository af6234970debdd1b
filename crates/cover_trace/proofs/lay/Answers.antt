-- `lay` writes three corners one after the other.
use Rattle.cover_trace.proofs.Laws.Tries.{corners_laid}
use Rattle.cover_trace.proofs.lay.Goals as goal

pub returns : goal.returns
returns c = search corners_laid
