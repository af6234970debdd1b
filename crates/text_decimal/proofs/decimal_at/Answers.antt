-- `decimal_at`: reading on at the present place, with the value and the count so far, is reading at the first.
use borrow.Author.Rules.{rules}
use Rattle.text_decimal.proofs.Laws.Chain.{dec_begin, dec_short, dec_right, dec_led, dec_bad, dec_big, dec_more}
use Rattle.text_decimal.proofs.decimal_at.Goals as goal

pub loop-i-init : goal.loop-i-init
loop-i-init c = search (dec_begin, rules)

pub returns-then-i-at : goal.returns-then-i-at
returns-then-i-at c = search (dec_right, rules)

pub returns-then-x-end : goal.returns-then-x-end
returns-then-x-end c = search dec_led

pub returns-then-not-is_digit : goal.returns-then-not-is_digit
returns-then-not-is_digit c = search dec_bad

pub returns-then-limit-w : goal.returns-then-limit-w
returns-then-limit-w c = search dec_big

pub loop-i-preserved : goal.loop-i-preserved
loop-i-preserved c = search (dec_more, rules)

pub returns : goal.returns
returns c = search dec_short
