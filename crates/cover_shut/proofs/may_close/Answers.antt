-- `may_close` marks column after column, and reads what became of the whole loop.
use Rattle.cover_shut.proofs.Laws.Shut.{columns_begin, columns_more, columns_end}
use Rattle.cover_shut.proofs.may_close.Goals as goal

pub loop-k-init : goal.loop-k-init
loop-k-init c = search columns_begin

pub loop-k-preserved : goal.loop-k-preserved
loop-k-preserved c = search columns_more

pub returns : goal.returns
returns c = search columns_end
