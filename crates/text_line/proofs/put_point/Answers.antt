-- `put_point` lays two bytes and three words, each behind the last.
use Rattle.text_line.proofs.Laws.Rows.{point_laid}
use Rattle.text_line.proofs.put_point.Goals as goal

pub returns : goal.returns
returns c = search point_laid
