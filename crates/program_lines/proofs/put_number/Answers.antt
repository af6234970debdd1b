-- `put_number`: its digits, and the byte that ends it.
use native.Mathlib.Omega.{arith}
use Rattle.text_digits.proofs.Laws.Digit.{size_fits}
use Rattle.program_lines.proofs.Laws.Digits.{ended_put}
use Rattle.program_lines.proofs.put_number.Goals as goal

pub put_digits-requires : goal.put_digits-requires
put_digits-requires c = (omega (arith, c.size_of-size.ensures), rw c.size_of-size.ensures (size_fits _))

pub returns : goal.returns
returns c = search (ended_put, arith)
