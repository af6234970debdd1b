-- `hear_texts` has room for whatever the texts say.
use lib.Dec.{lit≤}
use Rattle.text_sheet.proofs.Laws.Rooms.{long_words, long_corners}
use Rattle.program_judge.proofs.Laws.Takes.{few_taken, from_texts, heard_texts}
use Rattle.program_judge.proofs.hear_texts.Goals as goal

pub take_in-intake-requires : goal.take_in-intake-requires
take_in-intake-requires c = search (long_words, long_corners)

pub read_behind-read-requires : goal.read_behind-read-requires
read_behind-read-requires c = few_taken c.take_in-intake.result _ _ _ _ _ c.take_in-intake.ensures

pub hear_taken-requires : goal.hear_taken-requires
hear_taken-requires c = from_texts _ _ _ _ _ _ _ _ _ _ _ c.take_in-intake.ensures c.read_behind-read.ensures (lit≤ tt) (lit≤ tt)

pub returns : goal.returns
returns c = heard_texts _ _ _ _ _ _ _ _ _ _ _ c.take_in-intake.ensures c.read_behind-read.ensures (lit≤ tt) (lit≤ tt) _ c.hear_taken.ensures
