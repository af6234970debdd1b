-- What gathering a file's points is lent and leaves.
use Rattle.std.specs.Prelude.{◌≡◌, Option, Some, None, List, ℕ, ◌+◌, ◌*◌, ◌<◌, ◌≤◌, length, take, replicate}
use Rattle.base_limits.specs.Limits as limits
use Rattle.surface_rules.specs.Threes.{flat}
use Rattle.stl_facets.specs.Facets.{front, facet_bytes, facets}
use Rattle.stl_rules.specs.Reading.{points_in, corners_in}

-- A whole file; as many points may be met as there are links, and there is room for their words and for every corner's number.
pub record GatherRoom (file ws cs heads links : List ℕ) : Type 0 where
  pub whole : length file ≡ front + facet_bytes * facets file
  pub few : facets file ≤ limits.triangles
  pub some : 0 < length heads
  pub empty : heads ≡ replicate (length heads) 0
  pub words_long : 3 * length links ≤ length ws
  pub links_few : length links ≤ limits.points
  pub room : 3 * facets file ≤ length cs

-- the points and their numbers lie at the starts of two buffers
pub record Gathered (file : List ℕ) (most n : ℕ) (ws cs : List ℕ) : Type 0 where
  pub count : n ≡ length (points_in file)
  pub within : n ≤ most
  pub words_are : take (3 * n) ws ≡ flat (points_in file)
  pub corners_are : take (3 * facets file) cs ≡ corners_in file

unfoldable pub Gathers : List ℕ → ℕ → Option ℕ → List ℕ → List ℕ → Type 0
Gathers file most (Some n) ws cs = Gathered file most n ws cs
Gathers file most None ws cs = most < length (points_in file)
