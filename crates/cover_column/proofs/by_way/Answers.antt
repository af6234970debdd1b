-- `by_way` reads inside the table and the column, and what it takes the size of are whole numbers.
use Rattle.cover_column.proofs.Laws.Columns.{way_is}
use Rattle.cover_column.proofs.by_way.Goals as goal

pub returns : goal.returns
returns c = search way_is
