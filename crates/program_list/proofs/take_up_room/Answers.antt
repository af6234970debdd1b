-- `take_up_room` hands on the front of the room, in which the longest text has room.
use Rattle.surface_rules.proofs.Laws.Lists.{as_long}
use Rattle.program_list.proofs.Theorems.{takes_front}
use Rattle.program_list.proofs.take_up_room.Goals as goal

pub slice_bounds-take_up-end : goal.slice_bounds-take_up-end
slice_bounds-take_up-end c = as_long _ _ c.requires.1

pub returns : goal.returns
returns c = record { by_index = (λ input held. takes_front c.requires.0 held c.take_up.ensures.takes_up); took = c.take_up.ensures.took }
