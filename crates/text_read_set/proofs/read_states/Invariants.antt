-- `read_states` keeps what is left to read, laid over the present buffer, the same.
use Rattle.text_sheet.proofs.Laws.Going.{Going, by_ones}
use Rattle.text_read_set.specs.Workings.Scanning.{read_state}
use lib.ListN.{length, drop}
use Prim.Native.Nat.{◌≤◌}
use Rattle.text_read_set.proofs.read_states.Given as goal

abbrev pub invariant-loop-i : goal.invariant-loop-i
invariant-loop-i l = Going by_ones read_state 4 l.n (drop l.at l.text) l.initial.states l.i (drop l.place l.text) l.states × (l.place ≤ length l.text)
