-- `around` visits the three half-edges of a triangle.
use Rattle.rim_pieces.proofs.Laws.Visiting.{first_room, second_room, third_room, arounds}
use Rattle.rim_pieces.proofs.around.Goals as goal

pub visit-first-requires : goal.visit-first-requires
visit-first-requires c = search first_room

pub visit-second-requires : goal.visit-second-requires
visit-second-requires c = second_room c.requires c.visit-first.ensures

pub visit-requires : goal.visit-requires
visit-requires c = third_room c.requires c.visit-first.ensures c.visit-second.ensures

pub returns : goal.returns
returns c = arounds c.visit-first.ensures c.visit-second.ensures c.visit.ensures
