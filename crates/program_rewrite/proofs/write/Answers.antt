-- `write` puts the text, or the line of the answer that refuses.
use Rattle.program_rewrite.proofs.Laws.Printed.{refused_lies, written_lies}
use Rattle.program_rewrite.proofs.write.Goals as goal

pub returns-in-Ok : goal.returns-in-Ok
returns-in-Ok c = written_lies _ _ _ _ _ c.write.ensures c.in-Ok.is

pub returns-in-Err : goal.returns-in-Err
returns-in-Err c = refused_lies _ _ _ _ _ c.write.ensures c.in-Err.is c.put_answer.ensures.out_value.0 c.put_answer.ensures.out_value.1
