-- `mark_digits`: after some turns the digits below d are marked.
use Rattle.text_hex.specs.Workings.Tables.{Marked}
use Rattle.text_hex.proofs.mark_digits.Given as goal

abbrev pub invariant-loop-d : goal.invariant-loop-d
invariant-loop-d l = Marked l.d l.values
