-- `begin`: the answer's line, and the count behind it.
use borrow.Author.Rules.{rules}
use Rattle.program_roll.proofs.Laws.Beginning.{refusal_begins, count_begins}
use Rattle.program_roll.proofs.begin.Goals as goal

pub returns-then-refuses : goal.returns-then-refuses
returns-then-refuses c = record { begins = search refusal_begins; bytes_bound = search rules }

pub returns : goal.returns
returns c = record { begins = search count_begins; bytes_bound = search rules }
