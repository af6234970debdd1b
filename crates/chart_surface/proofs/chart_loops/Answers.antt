-- `chart_loops` lists the loops, marks the rims, and lays the report.
use mathlib.Core.Path.{◌∙◌}
use Rattle.surface_rules.proofs.Laws.Lists.{as_long}
use Rattle.survey_rules.proofs.Laws.Parts.{rings_in, lengths_in}
use Rattle.chart_surface.proofs.Laws.Charting.{list_room, mark_room, lay_room, charted}
use Rattle.chart_surface.proofs.chart_loops.Goals as goal

pub list_with-listed-requires : goal.list_with-listed-requires
list_with-listed-requires c = list_room c.requires.loop_room.checked c.requires.loop_room.rings_long c.requires.loop_bench

pub slice_bounds-mark_counted-end : goal.slice_bounds-mark_counted-end
slice_bounds-mark_counted-end c = rings_in c.list_with-listed.ensures.lists_loops

pub slice_bounds-mark_counted-end-2 : goal.slice_bounds-mark_counted-end-2
slice_bounds-mark_counted-end-2 c = as_long _ _ (rings_in c.list_with-listed.ensures.lists_loops)

pub slice_bounds-mark_counted-end-3 : goal.slice_bounds-mark_counted-end-3
slice_bounds-mark_counted-end-3 c = lengths_in c.list_with-listed.ensures.lists_loops

pub slice_bounds-mark_counted-end-4 : goal.slice_bounds-mark_counted-end-4
slice_bounds-mark_counted-end-4 c = as_long _ _ (lengths_in c.list_with-listed.ensures.lists_loops)

pub mark_counted-pieces-requires : goal.mark_counted-pieces-requires
mark_counted-pieces-requires c = mark_room c.requires.loop_room.checked c.requires.loop_room.rings_long c.requires.loop_bench c.list_with-listed.ensures.lists_loops c.list_with-listed.ensures.keeps_turns c.turns-1.given c.path-1.given c.places-1.given

pub slice_bounds-lay-end : goal.slice_bounds-lay-end
slice_bounds-lay-end c = rings_in c.list_with-listed.ensures.lists_loops

pub slice_bounds-lay-end-2 : goal.slice_bounds-lay-end-2
slice_bounds-lay-end-2 c = as_long _ _ (rings_in c.list_with-listed.ensures.lists_loops)

pub slice_bounds-lay-end-3 : goal.slice_bounds-lay-end-3
slice_bounds-lay-end-3 c = lengths_in c.list_with-listed.ensures.lists_loops

pub slice_bounds-lay-end-4 : goal.slice_bounds-lay-end-4
slice_bounds-lay-end-4 c = as_long _ _ (lengths_in c.list_with-listed.ensures.lists_loops)

pub lay-entries-requires : goal.lay-entries-requires
lay-entries-requires c =
    lay_room c.requires.loop_room.checked c.requires.loop_room.rings_long c.requires.loop_bench c.list_with-listed.ensures.lists_loops c.mark_counted-pieces.ensures.0 c.mark_counted-pieces.ensures.1
    (c.places-2-1.given ∙ c.places-1.given) c.requires.loop_room.report_long

pub returns : goal.returns
returns c =
    λ pitch words checked. charted checked c.requires.loop_room.rings_long c.requires.loop_bench c.list_with-listed.ensures.lists_loops c.mark_counted-pieces.ensures.0 c.mark_counted-pieces.ensures.1
    (c.places-2-1.given ∙ c.places-1.given) c.lay-entries.ensures
