-- `number_at` goes on after the first digit.
use borrow.Author.Rules.{rules}
use Rattle.text_decimal.proofs.Laws.Rooms.{up_on}
use Rattle.text_decimal.proofs.Laws.Chain.{first_bad, first_more}
use Rattle.text_decimal.proofs.number_at.Goals as goal

pub returns-then-not-is_digit : goal.returns-then-not-is_digit
returns-then-not-is_digit c = search (first_bad, rules)

pub returns : goal.returns
returns c = (search (first_more, rules), up_on c.args.at 4 c.second_at.result c.second_at.ensures.1)
