-- `main` prints no more than was put.
use Rattle.std.proofs.Common.{sym, length-take-le}
use Rattle.program_rewrite.proofs.Laws.Fronts.{rewrites_within}
use Rattle.rewriting.proofs.main.Goals as goal

pub slice_bounds-room-end : goal.slice_bounds-room-end
slice_bounds-room-end c = rewrites_within c.rewrite-bytes.ensures

pub slice_bounds-write_all-end : goal.slice_bounds-write_all-end
slice_bounds-write_all-end c = sym (length-take-le _ _ (rewrites_within c.rewrite-bytes.ensures))
