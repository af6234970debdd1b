-- `number` floods from the smallest triangle that has no number, piece after piece.
use lib.ListN.{length}
use Rattle.rim_pieces.specs.Workings.Flooding.{flooded}
use Rattle.rim_pieces.proofs.Laws.Floods.{Numbering}
use Rattle.rim_pieces.proofs.number.Given as goal

abbrev pub invariant-loop-t : goal.invariant-loop-t
invariant-loop-t l = Numbering l.corners l.t l.p (flooded l.queue l.count l.pieces) (length l.initial.queue) (length l.initial.pieces)
