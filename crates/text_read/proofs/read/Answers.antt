-- A short text has room in little scratch, and any in scratch for a whole surface.
use native.Mathlib.Omega.{arith}
use Rattle.text_sheet.proofs.Laws.Rooms.{short_words, short_corners, long_words, long_corners}
use Rattle.text_read.proofs.read.Goals as goal

pub read_by-requires-clause-room : goal.read_by-requires-clause-room
read_by-requires-clause-room c = (short_words _ _ (omega (arith, c.if-text-le-SHORT.true)), short_corners _ _ (omega (arith, c.if-text-le-SHORT.true)))

pub read_by-requires-2-clause-room : goal.read_by-requires-2-clause-room
read_by-requires-2-clause-room c = (long_words _, long_corners _)
