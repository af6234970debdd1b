-- `put_count`: a line with one number.
use Rattle.program_lines.proofs.Laws.Answering.{count_room, count_within}
use Rattle.program_lines.proofs.put_count.Goals as goal

pub put_line-requires : goal.put_line-requires
put_line-requires c = search count_room

pub returns-clause-upper_bound : goal.returns-clause-upper_bound
returns-clause-upper_bound c = search count_within
