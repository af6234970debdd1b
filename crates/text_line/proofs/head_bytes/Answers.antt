-- `head_bytes`: pitch 1 has no head, that of pitch 10 has two digits, and those of the others one.
use Rattle.text_line.proofs.Laws.Heads.{head_one_long, head_ten_long, head_other_long}
use Rattle.text_line.proofs.head_bytes.Goals as goal

pub returns-in-1 : goal.returns-in-1
returns-in-1 c = search head_one_long

pub returns-in-10 : goal.returns-in-10
returns-in-10 c = search head_ten_long

pub returns-in_default : goal.returns-in_default
returns-in_default c = search head_other_long
