-- `print` refuses a buffer that is too short, and puts the line of what is heard into any other.
use mathlib.Core.Path.{refl}
use Rattle.program_lines.proofs.Laws.Printing.{short_prints, long_prints}
use Rattle.program_judge.proofs.print.Goals as goal

pub returns-then-out-lt-LINE : goal.returns-then-out-lt-LINE
returns-then-out-lt-LINE c = short_prints c.if-out-lt-LINE.true

pub returns : goal.returns
returns c = long_prints c.if-out-lt-LINE.false _ (record { answer = c.hear_texts-answer.result; heard = c.hear_texts-answer.ensures; its_line = refl }) c.put_answer-bytes.ensures.out_value.1 c.put_answer-bytes.ensures.out_value.0
