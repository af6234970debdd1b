-- `list_taken` hands on a refusal, or patches what was taken up.
use Rattle.std.proofs.lemmas.Result.{err_from_is_err_and}
use Rattle.surface_rules.proofs.Laws.Lists.{as_long}
use Rattle.program_list.proofs.Laws.Taken.{refused_lists, patched_lists}
use Rattle.program_list.proofs.list_taken.Goals as goal

pub returns-in_err-sheet : goal.returns-in_err-sheet
returns-in_err-sheet c = λ bytes before k.
    let p = err_from_is_err_and c.from_residual.result c.from_residual.ensures.1 in
    rw (p.1, p.2) (refused_lists k c.in_err-sheet.was)

pub slice_bounds-patch_checked-end : goal.slice_bounds-patch_checked-end
slice_bounds-patch_checked-end c = as_long _ _ (c.requires.0.1.patchable _ c.in_ok-sheet.was).corners_inside

pub slice_bounds-patch_checked-end-2 : goal.slice_bounds-patch_checked-end-2
slice_bounds-patch_checked-end-2 c = as_long _ _ (c.requires.0.1.patchable _ c.in_ok-sheet.was).words_in

pub patch_checked-requires : goal.patch_checked-requires
patch_checked-requires c = ((c.requires.0.1.patchable _ c.in_ok-sheet.was).room, c.requires.1.turns_full)

pub returns : goal.returns
returns c = λ bytes before k. patched_lists k c.in_ok-sheet.was c.patch_checked.ensures
