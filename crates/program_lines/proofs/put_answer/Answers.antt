-- `put_answer`: a line with two numbers, at the start of the buffer.
use borrow.Author.Rules.{rules}
use Rattle.program_lines.proofs.Laws.Answering.{answer_short, answer_put, answer_behind, answer_within}
use Rattle.program_lines.proofs.put_answer.Goals as goal

pub put_line-requires : goal.put_line-requires
put_line-requires c = search answer_short

pub returns : goal.returns
returns c = record { out_value = (search answer_put, search answer_behind); result_bound = search (answer_within, rules) }
