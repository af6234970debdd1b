-- `visit` looks across one half-edge.
use Rattle.rim_pieces.proofs.Laws.Visiting.{visits_open, visits_old, visits_new, across_in, room_in}
use Rattle.rim_pieces.proofs.visit.Goals as goal

pub returns-then-turn-ge-WALKED : goal.returns-then-turn-ge-WALKED
returns-then-turn-ge-WALKED c = search visits_open

pub bounds-pieces-u : goal.bounds-pieces-u
bounds-pieces-u c = search (across_in c.requires)

pub returns-then-pieces-u : goal.returns-then-pieces-u
returns-then-pieces-u c = search visits_old

pub bounds-queue-count : goal.bounds-queue-count
bounds-queue-count c = search (room_in c.requires)

pub returns : goal.returns
returns c = search visits_new
