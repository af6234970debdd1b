-- `take_sheet` has room for whatever a text says.
use Rattle.surface_rules.proofs.Laws.Lists.{as_long}
use Rattle.program_judge.proofs.Laws.Takes.{sheet_room}
use Rattle.program_judge.proofs.take_sheet.Goals as goal

pub slice_bounds-take_in-end : goal.slice_bounds-take_in-end
slice_bounds-take_in-end c = search as_long

pub take_in-requires : goal.take_in-requires
take_in-requires c = sheet_room _ _ _ c.requires.full

pub returns : goal.returns
returns c = (c.requires.sheet_text_in_bounds.0, record { words_before = c.args.words.now; corners_before = c.args.corners.now; taken = c.take_in.ensures })
