-- `house` reads the piece of each loop off its first half-edge.
use lib.ListN.{length}
use Rattle.rim_mark.proofs.Laws.Ranking.{Housed}
use Rattle.rim_mark.proofs.house.Given as goal

abbrev pub invariant-loop-l : goal.invariant-loop-l
invariant-loop-l l = Housed l.firsts l.pieces (length l.initial.homes) l.l l.homes
