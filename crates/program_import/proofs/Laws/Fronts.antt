-- What was put over a room's start is no longer than the room.
use mathlib.Core.List.{List}
use Prim.Native.Nat.{ℕ, ◌≤◌}
use lib.ListN.{length}
use Rattle.surface_rules.proofs.Laws.Over.{front_in}
use Rattle.program_import.specs.Importing.{ImportsIn}

pub imports_within : {room room' : List ℕ} {n long r : ℕ} → ImportsIn room n long r room' → r ≤ length room'
imports_within {room} {room'} {n} {long} {r} p = front_in p.out room room' r p.many p.lies
