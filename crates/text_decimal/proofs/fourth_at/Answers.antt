-- `fourth_at` takes a fourth digit for the last.
use borrow.Author.Rules.{rules}
use Rattle.text_digits.proofs.Laws.Sizes.{size_three}
use Rattle.text_decimal.proofs.Laws.Chain.{chain_end, chain_bad, chain_big, fourth_ajar, fourth_end}
use Rattle.text_decimal.proofs.fourth_at.Goals as goal

pub returns-then-x-end : goal.returns-then-x-end
returns-then-x-end c = search (chain_end, size_three, rules)

pub returns-then-not-is_digit : goal.returns-then-not-is_digit
returns-then-not-is_digit c = search (chain_bad, rules)

pub returns-then-limit-w : goal.returns-then-limit-w
returns-then-limit-w c = search (chain_big, rules)

pub returns-then-text-i : goal.returns-then-text-i
returns-then-text-i c = search (fourth_ajar, rules)

pub returns : goal.returns
returns c = search (fourth_end, rules)
