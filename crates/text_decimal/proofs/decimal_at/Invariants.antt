-- `decimal_at`: reading on at the present place, with the value and the count so far, is reading at the first.
use lib.ListN.{drop}
use Prim.Native.Nat.{◌≤◌, ◌-◌}
use mathlib.Core.Path.{◌≡◌}
use Rattle.text_digits.specs.Workings.Reading.{read_decimal, until}
use Rattle.text_decimal.proofs.decimal_at.Given as goal

abbrev pub invariant-loop-i : goal.invariant-loop-i
invariant-loop-i l = (l.v ≤ l.limit) × (read_decimal l.end l.limit (drop l.at l.text) ≡ until l.end l.limit l.v (l.i - l.at) (drop l.i l.text))
