-- `starts_at` looks at the place of x, where the edge is if there is one.
use Rattle.loop_cut.proofs.Laws.Seeks.{seek_past, seek_found, seek_other}
use Rattle.loop_cut.proofs.starts_at.Goals as goal

pub returns-then-depth-i : goal.returns-then-depth-i
returns-then-depth-i c = search seek_past

pub returns-then-corners-e : goal.returns-then-corners-e
returns-then-corners-e c = search seek_found

pub returns : goal.returns
returns c = search seek_other
