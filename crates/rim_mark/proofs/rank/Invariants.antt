-- `rank` lets loop after loop take its piece's place, where it comes before the one that stands there.
use lib.ListN.{length}
use Rattle.rim_mark.proofs.Laws.Ranking.{Ranked}
use Rattle.rim_mark.proofs.rank.Given as goal

abbrev pub invariant-loop-l : goal.invariant-loop-l
invariant-loop-l l = Ranked l.homes l.runs l.n (length l.initial.best) l.l l.best
