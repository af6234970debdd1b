-- `may_close` marks column after column, and reads what became of the whole loop.
use Rattle.cover_shut.proofs.Laws.Shut.{Columns}
use Rattle.cover_shut.proofs.may_close.Given as goal

abbrev pub invariant-loop-k : goal.invariant-loop-k
invariant-loop-k l = Columns l.n l.bars l.k l.words
