-- `key_at`: what is left of the key, read at the present place, is the whole key read at the first.
use lib.ListN.{length, drop}
use mathlib.Core.Path.{◌≡◌}
use Prim.Native.Nat.{◌+◌, ◌≤◌}
use Rattle.text_digits.specs.Workings.Reading.{read_key}
use Rattle.text_digits.proofs.key_at.Given as goal

abbrev pub invariant-loop-k : goal.invariant-loop-k
invariant-loop-k l = (l.at + length l.key ≤ length l.text) × (read_key l.key (drop l.at l.text) ≡ read_key (drop l.k l.key) (drop (l.at + l.k) l.text))
