-- What can be printed of a patching.
use Rattle.std.specs.Prelude.{List, ℕ, ◌*◌, ◌≤◌, length, take}
use Rattle.base_limits.specs.Limits as limits
use Rattle.patch_surface.specs.declared.Patched.{Patched}
use Rattle.program_lines.specs.Workings.Telling.{inventory}
use Rattle.program_roll.specs.Workings.Listed.{Listed}

-- what was left can be listed, as far as it is used
pub record Printable (p : Patched) (rings records patches : List ℕ) : Type 0 where
  pub rings_in : p.vertices ≤ length rings
  pub records_in : limits.record_numbers * p.loops ≤ length records
  pub patches_in : p.corners ≤ length patches
  pub few : p.loops ≤ limits.triangles
  pub listed : Listed (inventory (take p.vertices rings) (take (limits.record_numbers * p.loops) records) (take p.corners patches)) p.loops
