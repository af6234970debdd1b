-- `patch_checked` lists the loops, marks the rims, and fills what was found.
use Rattle.surface_rules.proofs.Laws.Lists.{as_long}
use Rattle.survey_rules.proofs.Laws.Parts.{rings_in, lengths_in}
use Rattle.patch_surface.proofs.Laws.Patching.{found_loops, list_room, mark_room}
use Rattle.patch_surface.proofs.patch_checked.Goals as goal

pub list_with-listed-requires : goal.list_with-listed-requires
list_with-listed-requires c = list_room c.requires.patch_room.checked c.requires.patch_room.roomy c.requires.bench

pub slice_bounds-mark_all-end : goal.slice_bounds-mark_all-end
slice_bounds-mark_all-end c = rings_in c.list_with-listed.ensures.lists_loops

pub slice_bounds-mark_all-end-2 : goal.slice_bounds-mark_all-end-2
slice_bounds-mark_all-end-2 c = as_long _ _ (rings_in c.list_with-listed.ensures.lists_loops)

pub slice_bounds-mark_all-end-3 : goal.slice_bounds-mark_all-end-3
slice_bounds-mark_all-end-3 c = lengths_in c.list_with-listed.ensures.lists_loops

pub slice_bounds-mark_all-end-4 : goal.slice_bounds-mark_all-end-4
slice_bounds-mark_all-end-4 c = as_long _ _ (lengths_in c.list_with-listed.ensures.lists_loops)

pub mark_all-requires : goal.mark_all-requires
mark_all-requires c = mark_room c.requires.patch_room.checked c.requires.patch_room.roomy c.requires.bench c.list_with-listed.ensures.lists_loops c.list_with-listed.ensures.keeps_turns (search) (search) (search)

pub slice_bounds-fill_found-end : goal.slice_bounds-fill_found-end
slice_bounds-fill_found-end c = rings_in c.list_with-listed.ensures.lists_loops

pub slice_bounds-fill_found-end-2 : goal.slice_bounds-fill_found-end-2
slice_bounds-fill_found-end-2 c = as_long _ _ (rings_in c.list_with-listed.ensures.lists_loops)

pub slice_bounds-fill_found-end-3 : goal.slice_bounds-fill_found-end-3
slice_bounds-fill_found-end-3 c = lengths_in c.list_with-listed.ensures.lists_loops

pub slice_bounds-fill_found-end-4 : goal.slice_bounds-fill_found-end-4
slice_bounds-fill_found-end-4 c = as_long _ _ (lengths_in c.list_with-listed.ensures.lists_loops)

pub fill_found-laid-requires-clause-found_loops : goal.fill_found-laid-requires-clause-found_loops
fill_found-laid-requires-clause-found_loops c = found_loops c.requires.patch_room.checked c.list_with-listed.ensures.lists_loops c.mark_all.ensures c.requires.bench.states_long
