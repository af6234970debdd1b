-- `second_at` goes on after the second digit, and nothing follows a zero.
use lib.ListN.{length, get_or}
use Prim.Native.Nat.{◌+◌, ◌-◌, ◌*◌, ◌<◌, ◌≤◌}
use native.Mathlib.Omega.{arith}
use borrow.Author.Rules.{rules}
use Rattle.text_digits.proofs.Laws.Digit.{size_one}
use Rattle.text_decimal.proofs.Laws.Rooms.{up_on}
use Rattle.text_decimal.proofs.Laws.Leads.{dec_lead}
use Rattle.text_decimal.proofs.Laws.Chain.{chain_end, chain_bad, chain_on}
use Rattle.text_decimal.proofs.second_at.Goals as goal

pub returns-then-x-end : goal.returns-then-x-end
returns-then-x-end c = search (chain_end, size_one, rules)

pub returns-then-v-eq0 : goal.returns-then-v-eq0
returns-then-v-eq0 c = search (dec_lead, rules)

pub returns-then-not-is_digit : goal.returns-then-not-is_digit
returns-then-not-is_digit c = search (chain_bad, rules)

pub returns : goal.returns
returns c =
    let l : c.args.i < length c.args.text.now = omega (arith, c.requires) in
    let f : c.args.v * 10 + (get_or c.args.text.now c.args.i 0 - 48) ≤ c.args.limit = omega (arith, c.requires) in
    (search chain_on, up_on c.args.i 3 c.third_at.result c.third_at.ensures.1)
