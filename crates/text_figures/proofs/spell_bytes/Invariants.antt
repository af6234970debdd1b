-- `spell_bytes`: after some turns the bytes whose first digit is below `high` are spelt.
use Prim.Native.Nat.{◌*◌}
use Rattle.text_figures.specs.Workings.Tables.{Spelled}
use Rattle.text_figures.proofs.spell_bytes.Given as goal

abbrev pub invariant-loop-high : goal.invariant-loop-high
invariant-loop-high l = Spelled (16 * l.high) l.pairs
