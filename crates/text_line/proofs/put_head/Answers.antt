-- `put_head` writes nothing at pitch 1, and a line of a count at any other.
use Rattle.text_line.proofs.Laws.Heads.{head_room, head_none_laid, head_line_laid}
use Rattle.text_line.proofs.put_head.Goals as goal

pub returns-then-pitch-eq1 : goal.returns-then-pitch-eq1
returns-then-pitch-eq1 c = head_none_laid _ c.if-pitch-eq1.true

pub put_count-requires : goal.put_count-requires
put_count-requires c = head_room c.requires.0 c.requires.1 c.if-pitch-eq1.false

pub returns : goal.returns
returns c = head_line_laid _ c.if-pitch-eq1.false c.put_count.ensures
