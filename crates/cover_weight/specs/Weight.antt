-- Weight. What a triangle with its corners on the grid weighs.
use Rattle.std.specs.Prelude.{ℕ, ◌+◌, ◌*◌, ◌≤◌, List, length, get_or, ℤ, pos, nat_abs, ◌-ℤ◌, ◌*ℤ◌}
use Rattle.base_limits.specs.Limits as limits
use Rattle.cover_weight.specs.declared.Point.{Point}
use Rattle.cover_weight.specs.declared.Vector.{Vector}

-- the grid's difference of two points
abbrev pub less : Point → Point → Vector
less b a = record { x = b.x -ℤ a.x; y = b.y -ℤ a.y; z = b.z -ℤ a.z }

-- "the cross product has three signed components"
abbrev pub cross : Vector → Vector → Vector
cross u v = record {
  x = u.y *ℤ v.z -ℤ u.z *ℤ v.y;
  y = u.z *ℤ v.x -ℤ u.x *ℤ v.z;
  z = u.x *ℤ v.y -ℤ u.y *ℤ v.x;
}

-- "The triangle's weight is the sum of their absolute values."
abbrev pub size : Vector → ℕ
size c = nat_abs c.x + (nat_abs c.y + nat_abs c.z)

-- "For corners a, b, c with grid differences b-a and c-a"
unfoldable pub weight_of : Point → Point → Point → ℕ
weight_of a b c = size (cross (less b a) (less c a))

-- the number is a coordinate on the grid
abbrev pub Coordinate : ℤ → Type 0
Coordinate z = nat_abs z ≤ limits.greatest

-- the point is on the grid
pub record OnGrid (p : Point) : Type 0 where
  pub near_x : Coordinate p.x
  pub near_y : Coordinate p.y
  pub near_z : Coordinate p.z

-- the number is no greater than the difference of two coordinates can be
abbrev pub Difference : ℤ → Type 0
Difference z = nat_abs z ≤ 2 * limits.greatest

-- the vector is no longer than the difference of two points of the grid can be
pub record Short (v : Vector) : Type 0 where
  pub short_x : Difference v.x
  pub short_y : Difference v.y
  pub short_z : Difference v.z

-- the point that number v names, three numbers of the grid each
unfoldable pub point_of : List ℤ → ℕ → Point
point_of grid v = record { x = get_or grid (3 * v) (pos 0); y = get_or grid (3 * v + 1) (pos 0); z = get_or grid (3 * v + 2) (pos 0) }

-- "the three absolute grid differences", added, from point a to point b
unfoldable pub stride_of : List ℤ → ℕ → ℕ → ℕ
stride_of grid a b = size (less (point_of grid b) (point_of grid a))

-- all numbers of the grid are coordinates
abbrev pub Coordinates : List ℤ → Type 0
Coordinates grid = (j : ℕ) → Coordinate (get_or grid j (pos 0))

-- v names a point
abbrev pub Names : List ℤ → ℕ → Type 0
Names grid v = 3 * v + 3 ≤ length grid
