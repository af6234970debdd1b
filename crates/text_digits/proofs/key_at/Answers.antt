-- `key_at`: what is left of the key, read at the present place, is the whole key read at the first.
use mathlib.Core.Path.{refl}
use native.Mathlib.Nat.{add-zero}
use borrow.Author.Rules.{rules}
use Rattle.text_digits.proofs.Laws.Keys.{key_over, key_past, key_end, key_bad, key_more}
use Rattle.text_digits.proofs.key_at.Goals as goal

pub returns-then-text-key : goal.returns-then-text-key
returns-then-text-key c = search key_over

pub returns-then-text-key-2 : goal.returns-then-text-key-2
returns-then-text-key-2 c = search (key_past, rules)

pub loop-k-init : goal.loop-k-init
loop-k-init c = (search rules, rw add-zero refl)

pub returns-then-text-at : goal.returns-then-text-at
returns-then-text-at c = search key_bad

pub loop-k-preserved : goal.loop-k-preserved
loop-k-preserved c = search (key_more, rules)

pub returns : goal.returns
returns c = search key_end
