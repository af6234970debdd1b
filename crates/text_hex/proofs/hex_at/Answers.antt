-- `hex_at` reads two halves, and a half that is too heavy has a byte that is no digit.
use borrow.Author.Rules.{rules}
use Rattle.text_hex.proofs.Laws.Marks.{hex_high, hex_low, hex_unended, hex_done}
use Rattle.text_hex.proofs.hex_at.Goals as goal

pub returns-then-high-ge65536 : goal.returns-then-high-ge65536
returns-then-high-ge65536 c = search (hex_high, c.requires, c.half_at-high, c.half_at-low)

pub returns-then-low-ge65536 : goal.returns-then-low-ge65536
returns-then-low-ge65536 c = search (hex_low, c.requires, c.half_at-high, c.half_at-low)

pub returns-then-text-at : goal.returns-then-text-at
returns-then-text-at c = search (hex_unended, c.requires, c.half_at-high, c.half_at-low)

pub returns : goal.returns
returns c = search (hex_done, rules, c.requires, c.half_at-high, c.half_at-low)
