-- `judge` lends buffers of a surface's full size.
use borrow.Author.Rules.{rules}
use Rattle.program_judge.proofs.Laws.Answered.{answered, answered_verdict}
use Rattle.program_judge.proofs.judge.Goals as goal

pub returns-in-Ok-verdict : goal.returns-in-Ok-verdict
returns-in-Ok-verdict c = search (answered_verdict, rules)

pub returns-in-Err-verdict : goal.returns-in-Err-verdict
returns-in-Err-verdict c = search (answered_verdict, rules)

pub returns-in-Err : goal.returns-in-Err
returns-in-Err c = search (answered, rules)
