-- `is_digit` asks for a byte from '0' to '9'.
use borrow.Author.Tests.{lt-leb}
use mathlib.Core.Path.{◌∙◌}
use Rattle.text_digits.proofs.Laws.Digit.{under_ten, not_under}
use Rattle.text_decimal.proofs.is_digit.Goals as goal

pub returns-then-b-ge48-clause-valued : goal.returns-then-b-ge48-clause-valued
returns-then-b-ge48-clause-valued c = under_ten _ c.if-b-ge48.true

pub returns-else-b-ge48-clause-valued : goal.returns-else-b-ge48-clause-valued
returns-else-b-ge48-clause-valued c = lt-leb _ _ c.if-b-ge48.false ∙ not_under _ c.if-b-ge48.false
