-- `mark_some` numbers the pieces, measures the loops that have a rival, and marks the first of each piece.
use mathlib.Core.Path.{◌∙◌}
use mathlib.Core.List.{List}
use Prim.Native.Nat.{ℕ, ◌≤◌}
use native.Mathlib.Omega.{arith}
use lib.IntN.{ℤ}
use lib.ListN.{length}
use Rattle.survey_rules.proofs.Laws.Known.{still_long}
use Rattle.rim_mark.specs.Workings.Marking.{MarkRoom}
use Rattle.rim_mark.proofs.Laws.Marking.{homes_long, house_room, rank_room, rivals_run, tell_room, marked}
use Rattle.rim_mark.proofs.mark_some.Goals as goal

-- the table of turns has room for a piece of each loop
turned : {grid : List ℤ} {corners rings lengths turns path places marks : List ℕ} → MarkRoom grid corners rings lengths turns path places marks
    → length lengths ≤ length turns
turned room = homes_long room.found (omega (arith, room.found.crossing.long))

pub house-requires : goal.house-requires
house-requires c = house_room c.requires.mark_room.found c.number-count.ensures (still_long c.requires.mark_room.places_long c.number-count.auto.pieces) (turned c.requires.mark_room)

pub find_rivals-requires : goal.find_rivals-requires
find_rivals-requires c =
    rank_room c.requires.mark_room.found c.number-count.ensures (still_long c.requires.mark_room.places_long c.number-count.auto.pieces) c.house.ensures (still_long (turned c.requires.mark_room) c.house.auto.homes) c.clear.ensures
    (still_long c.requires.mark_room.path_long c.number-count.auto.queue) c.requires.lengths_in_bounds

pub rank-requires : goal.rank-requires
rank-requires c =
    rank_room c.requires.mark_room.found c.number-count.ensures (still_long c.requires.mark_room.places_long c.number-count.auto.pieces) c.house.ensures (still_long (turned c.requires.mark_room) c.house.auto.homes) c.clear-2.ensures
    (still_long c.requires.mark_room.path_long (c.find_rivals.auto.firsts ∙ c.clear.auto.pieces ∙ c.number-count.auto.queue)) (still_long c.requires.lengths_in_bounds (c.measure.auto.runs ∙ c.find_rivals.auto.runs))

pub tell-requires : goal.tell-requires
tell-requires c =
    let long = still_long c.requires.mark_room.places_long c.number-count.auto.pieces in
    let homes_here = still_long (turned c.requires.mark_room) c.house.auto.homes in
    tell_room c.requires.mark_room.found c.number-count.ensures long c.house.ensures homes_here
    (rivals_run c.requires.mark_room.found c.number-count.ensures long c.house.ensures homes_here c.find_rivals.ensures c.measure.ensures)
    c.clear-2.ensures (still_long c.requires.mark_room.path_long (c.find_rivals.auto.firsts ∙ c.clear.auto.pieces ∙ c.number-count.auto.queue)) c.rank.ensures c.rank.auto.best c.requires.mark_room.found.firsts_long

pub returns : goal.returns
returns c =
    let long = still_long c.requires.mark_room.places_long c.number-count.auto.pieces in
    let homes_here = still_long (turned c.requires.mark_room) c.house.auto.homes in
    marked c.requires.mark_room.found c.number-count.ensures long c.house.ensures homes_here
    (rivals_run c.requires.mark_room.found c.number-count.ensures long c.house.ensures homes_here c.find_rivals.ensures c.measure.ensures)
    c.clear-2.ensures (still_long c.requires.mark_room.path_long (c.find_rivals.auto.firsts ∙ c.clear.auto.pieces ∙ c.number-count.auto.queue)) c.rank.ensures c.rank.auto.best _ _ c.tell.ensures
