-- `take_up` has room for the words of the longest sheet, and hands on what the checks say.
use Rattle.std.proofs.lemmas.Result.{err_from_is_err_and}
use Rattle.text_sheet.proofs.Laws.Rooms.{long_words}
use Rattle.text_read.proofs.Laws.Deliver.{whole_mapped}
use Rattle.patch_surface.specs.Outcome.{buffers}
use Rattle.program_list.proofs.Laws.Taken.{full_corners, wrong_takes, refused_takes, whole_takes}
use Rattle.program_list.proofs.take_up.Goals as goal

pub take_in-requires : goal.take_in-requires
take_in-requires c = (long_words _, full_corners _ _ c.requires.corners_full)

pub returns-in_err-sheet : goal.returns-in_err-sheet
returns-in_err-sheet c =
    let p = err_from_is_err_and c.from_residual.result c.from_residual.ensures.1 in
    let t = wrong_takes (buffers c.args.grid.now c.args.rings.now c.args.records.now c.args.patches.now) c.args.turns.now c.take_in.result _ _ _ c.take_in.ensures c.in_err-sheet.ensures.cases in
    rw (p.1, p.2) (record { takes_up = t.0; took = t.1 })

pub returns-in_err-check : goal.returns-in_err-check
returns-in_err-check c =
    let p = err_from_is_err_and c.from_residual-in_err-check.result c.from_residual-in_err-check.ensures.1 in
    let t = refused_takes (whole_mapped c.take_in.result c.take_in.ensures c.in_ok-sheet.ensures.cases) (buffers c.args.grid.now c.args.rings.now c.args.records.now c.args.patches.now) c.in_err-check.ensures in
    rw (p.1, p.2) (record { takes_up = t.0; took = t.1 })

pub returns : goal.returns
returns c =
    let t = whole_takes (whole_mapped c.take_in.result c.take_in.ensures c.in_ok-sheet.ensures.cases) (buffers c.args.grid.now c.args.rings.now c.args.records.now c.args.patches.now) c.in_ok-check.ensures in
    record { takes_up = t.0; took = t.1 }
