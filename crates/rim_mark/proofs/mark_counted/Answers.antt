-- `mark_counted` measures every loop, numbers the pieces, and marks the first of each piece.
use mathlib.Core.Path.{◌∙◌}
use native.Mathlib.Omega.{arith}
use Rattle.survey_rules.proofs.Laws.Known.{still_long}
use Rattle.rim_pieces.proofs.Theorems.{count_is}
use Rattle.rim_mark.proofs.Laws.Marking.{many_loops, homes_long, house_room, rank_room, tell_room, home_is, marked, all_run}
use Rattle.rim_mark.proofs.mark_counted.Goals as goal

pub house-requires : goal.house-requires
house-requires c = house_room c.requires.found c.number-count.ensures (still_long c.requires.path_long c.number-count.auto.pieces) (still_long (homes_long c.requires.found c.requires.pieces_long) c.number-count.auto.queue)

pub rank-requires : goal.rank-requires
rank-requires c =
    let long = still_long c.requires.path_long c.number-count.auto.pieces in
    rank_room c.requires.found c.number-count.ensures long c.house.ensures (still_long (homes_long c.requires.found c.requires.pieces_long) (c.house.auto.homes ∙ c.number-count.auto.queue))
    c.clear.ensures long (still_long (omega (arith, c.requires.runs_long, many_loops c.requires.found)) c.measure_all.auto.runs)

pub tell-requires : goal.tell-requires
tell-requires c =
    let f = c.requires.found in
    let long = still_long c.requires.path_long c.number-count.auto.pieces in
    let runs_here = all_run f c.measure_all.ensures in
    tell_room f c.number-count.ensures long c.house.ensures (still_long (homes_long f c.requires.pieces_long) (c.house.auto.homes ∙ c.number-count.auto.queue)) (λ l k u v d e. runs_here l u)
    c.clear.ensures long c.rank.ensures c.rank.auto.best c.requires.marks_long

pub returns : goal.returns
returns c =
    let f = c.requires.found in
    let long = still_long c.requires.path_long c.number-count.auto.pieces in
    let homes_here = still_long (homes_long f c.requires.pieces_long) (c.house.auto.homes ∙ c.number-count.auto.queue) in
    let runs_here = all_run f c.measure_all.ensures in (
      record {
        marked = marked f c.number-count.ensures long c.house.ensures homes_here (λ l k u v d e. runs_here l u) c.clear.ensures long c.rank.ensures c.rank.auto.best _ _ c.tell.ensures;
        pieces_are = λ l k. home_is f c.number-count.ensures long c.house.ensures homes_here l (omega (arith, many_loops f));
        runs_are = λ l k. runs_here l (omega (arith, many_loops f));
      },
      count_is _ f.crossing.sound _ _ c.number-count.ensures,
    )
