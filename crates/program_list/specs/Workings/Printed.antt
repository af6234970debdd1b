-- What is printed of what was left in buffers that are long enough for every surface.
use Rattle.std.specs.Prelude.{Bool, true, false, List, ℕ, ◌*◌, ◌≤◌, length, take}
use Rattle.base_limits.specs.Limits as limits
use Rattle.patch_surface.specs.Outcome.{Buffers, Outcome}
use Rattle.program_lines.specs.Lines.{answer_line}
use Rattle.program_lines.specs.Listing.{listing}
use Rattle.program_lines.specs.Workings.Telling.{Inventory, inventory}
use Rattle.program_roll.specs.Workings.Listed.{Listed}
use Rattle.program_list.specs.Lists.{Prints}

pub record Full (b : Buffers) : Type 0 where
  pub grid_full : limits.words ≤ length b.grid
  pub rings_full : limits.corners ≤ length b.rings
  pub records_full : limits.record_numbers * limits.triangles ≤ length b.records
  pub patches_full : limits.set_corners ≤ length b.patches

-- what is used of the buffers
abbrev pub used : Outcome → Inventory
used o = inventory (take o.vertices o.left.rings) (take (limits.record_numbers * o.loops) o.left.records) (take o.corners o.left.patches)

-- loops stand in it
abbrev pub LoopsIn : Outcome → Type 0
LoopsIn o = Listed (used o) o.loops

-- the answer of an outcome that refuses; or the listing of the loops
abbrev pub Printed : Bool → List ℕ → Outcome → Type 0
Printed true bytes o = Prints bytes (answer_line o.answer)
Printed false bytes o = (l : LoopsIn o) × Prints bytes (listing l.loops)
