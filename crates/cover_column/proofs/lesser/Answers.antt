-- `lesser` is the definition, one arm for each answer of the test.
use Rattle.cover_column.proofs.Laws.Columns.{lesser_first, lesser_second}
use Rattle.cover_column.proofs.lesser.Goals as goal

pub returns-then-a-b : goal.returns-then-a-b
returns-then-a-b c = search lesser_first

pub returns-else-a-b : goal.returns-else-a-b
returns-else-a-b c = search lesser_second
