-- `main` prints no more than was put.
use Rattle.std.proofs.Common.{sym, length-take-le}
use Rattle.program_chart.proofs.Laws.Fronts.{prints_within}
use Rattle.charting.proofs.main.Goals as goal

pub slice_bounds-room-end : goal.slice_bounds-room-end
slice_bounds-room-end c = prints_within c.print_room-bytes.ensures

pub slice_bounds-write_all-end : goal.slice_bounds-write_all-end
slice_bounds-write_all-end c = sym (length-take-le _ _ (prints_within c.print_room-bytes.ensures))
