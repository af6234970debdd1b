-- What was laid over a room is no longer than it.
use mathlib.Core.List.{List}
use Prim.Native.Nat.{ℕ, ◌≤◌}
use lib.ListN.{length}
use Rattle.surface_rules.proofs.Laws.Over.{front_in}
use Rattle.program_chart.specs.Charting.{PrintsIn}

pub prints_within : {room room' : List ℕ} {n r : ℕ} → PrintsIn room n r room' → r ≤ length room'
prints_within {room} {room'} {n} {r} p = front_in p.out room room' r p.many p.lies
