-- `byte_of` adds what the digit lacks of its byte.
use mathlib.Core.Path.{sym}
use Rattle.text_digits.proofs.Laws.Digit.{byte_ten, byte_six}
use Rattle.text_digits.proofs.byte_of.Goals as goal

pub returns-then-d-lt10 : goal.returns-then-d-lt10
returns-then-d-lt10 c = sym (byte_ten _ c.if-d-lt10.true)

pub returns-else-d-lt10 : goal.returns-else-d-lt10
returns-else-d-lt10 c = sym (byte_six _ c.if-d-lt10.false)
