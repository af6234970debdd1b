-- `spell_row`: after some turns the bytes of the row whose second digit is below `low` are spelt too.
use mathlib.Core.Path.{◌≡◌}
use Prim.Native.Nat.{◌+◌, ◌*◌}
use Rattle.text_digits.specs.Numeral.{byte_of}
use Rattle.text_figures.specs.Workings.Tables.{Spelled}
use Rattle.text_figures.proofs.spell_row.Given as goal

abbrev pub invariant-loop-low : goal.invariant-loop-low
invariant-loop-low l = (l.first ≡ byte_of l.high) × Spelled (16 * l.high + l.low) l.pairs
