-- `corner_digits`: after some turns the digits of as many corners are summed.
use Rattle.text_line.proofs.Laws.Sizes.{Summed}
use Rattle.text_line.proofs.corner_digits.Given as goal

abbrev pub invariant-loop-c : goal.invariant-loop-c
invariant-loop-c l = Summed l.corners l.c-index l.sum
