-- What listing the loops asks for: a sound surface with its table of turns, and room for what it lists.
use Rattle.std.specs.Prelude.{ℕ, ◌/◌, ◌≤◌, ◌<◌, List, length, get_or}
use Rattle.base_limits.specs.Limits as limits
use Rattle.surface_rules.specs.Edges.{Sound}
use Rattle.surface_twins.specs.Workings.Turns.{Turns}

-- there is room, and the table of turns, and every corner names a point
pub record Ready (corners turns rings lengths firsts : List ℕ) : Type 0 where
  pub sound : Sound corners
  pub few : length corners ≤ limits.corners
  pub named : (i : ℕ) → i < length corners → get_or corners i 0 < limits.points
  pub table : Turns corners turns
  pub table_long : length corners ≤ length turns
  pub rings_long : length corners ≤ length rings
  pub lengths_long : length corners / 3 ≤ length lengths
  pub firsts_long : length corners / 3 ≤ length firsts

-- the path and the places that are lent are long enough
pub record Lent (corners path places : List ℕ) : Type 0 where
  pub path_long : length corners ≤ length path
  pub named : (i : ℕ) → i < length corners → get_or corners i 0 < length places
