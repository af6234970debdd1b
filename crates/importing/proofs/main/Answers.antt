-- `main` prints no more than was put.
use Rattle.std.proofs.Common.{sym, length-take-le}
use Rattle.program_import.proofs.Laws.Fronts.{imports_within}
use Rattle.importing.proofs.main.Goals as goal

pub slice_bounds-room-end : goal.slice_bounds-room-end
slice_bounds-room-end c = imports_within c.import-bytes.ensures

pub slice_bounds-write_all-end : goal.slice_bounds-write_all-end
slice_bounds-write_all-end c = sym (length-take-le _ _ (imports_within c.import-bytes.ensures))
