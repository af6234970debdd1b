-- What a set of triangles weighs: their weights added.
use Rattle.std.specs.Prelude.{ℕ, ◌+◌, ◌*◌, ◌<◌, ◌≤◌, List, [], ◌∷◌, ℤ, length, get_or}
use Rattle.base_limits.specs.Limits as limits
use Rattle.cover_rules.specs.Covers.{Triangle}
use Rattle.cover_weight.specs.Weight.{weight_of, point_of, Coordinates, Names}
use Rattle.cover_sum.specs.Workings.Triples.{Threes}

-- what a triangle weighs whose corners are points of the grid's list
abbrev pub named_weight : List ℤ → Triangle → ℕ
named_weight grid t = weight_of (point_of grid t.first) (point_of grid t.second) (point_of grid t.third)

unfoldable pub set_weight : List ℤ → List Triangle → ℕ
set_weight grid [] = 0
set_weight grid (t ∷ ts) = named_weight grid t + set_weight grid ts

-- every corner names a point
abbrev pub AllNamed : List ℤ → List ℕ → Type 0
AllNamed grid set = (j : ℕ) → j < length set → Names grid (get_or set j 0)

-- triangles by their corners, on the grid, and no more than a loop can have
pub record WeighRoom (grid : List ℤ) (set : List ℕ) : Type 0 where
  pub coordinates : Coordinates grid
  pub named : AllNamed grid set
  pub whole : Threes set
  pub few : length set ≤ 3 * limits.longest
