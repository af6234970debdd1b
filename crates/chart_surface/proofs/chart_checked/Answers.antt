-- `chart_checked` charts the loops, and then fills what was found as the patcher does.
use Rattle.surface_rules.proofs.Laws.Lists.{as_long}
use Rattle.chart_surface.proofs.Laws.Charting.{charted_rings, fill_room, edge_room, completes}
use Rattle.chart_surface.proofs.chart_checked.Goals as goal

pub slice_bounds-fill_found-end : goal.slice_bounds-fill_found-end
slice_bounds-fill_found-end c = let k = c.chart_loops-charted.ensures _ _ c.requires.loop_room.0.checked in charted_rings k

pub slice_bounds-fill_found-end-2 : goal.slice_bounds-fill_found-end-2
slice_bounds-fill_found-end-2 c = let k = c.chart_loops-charted.ensures _ _ c.requires.loop_room.0.checked in as_long _ _ (charted_rings k)

pub slice_bounds-fill_found-end-3 : goal.slice_bounds-fill_found-end-3
slice_bounds-fill_found-end-3 c = let k = c.chart_loops-charted.ensures _ _ c.requires.loop_room.0.checked in k.lengths_in

pub slice_bounds-fill_found-end-4 : goal.slice_bounds-fill_found-end-4
slice_bounds-fill_found-end-4 c = let k = c.chart_loops-charted.ensures _ _ c.requires.loop_room.0.checked in as_long _ _ k.lengths_in

pub fill_found-requires : goal.fill_found-requires
fill_found-requires c =
    record {
      found_loops = (c.chart_loops-charted.ensures _ _ c.requires.loop_room.0.checked).found;
      fill_room = (
        fill_room c.requires.loop_room.1 c.requires.loop_bench.0 c.requires.loop_bench.1 c.states-1.given c.firsts-1.given c.places-1.given c.runs-1.given,
        edge_room c.requires.loop_bench.1 c.turns-1.given c.path-1.given,
      );
    }

pub returns : goal.returns
returns c = λ pitch words checked before. completes checked (c.chart_loops-charted.ensures pitch words checked) c.fill_found.ensures before
