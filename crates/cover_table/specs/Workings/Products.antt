-- The products of two points, from which the code makes a triangle's weight without a multiplication.
use Rattle.std.specs.Prelude.{ℤ, ◌-ℤ◌, ◌*ℤ◌}
use Rattle.cover_weight.specs.declared.Point.{Point}

-- the product of two pairs of coordinates, one pair of each point
unfoldable pub pair : ℤ → ℤ → ℤ → ℤ → ℤ
pair y z s t = y *ℤ t -ℤ z *ℤ s

-- that of two points on each of the three planes
abbrev pub pair_x : Point → Point → ℤ
pair_x a b = pair a.y a.z b.y b.z

abbrev pub pair_y : Point → Point → ℤ
pair_y a b = pair a.z a.x b.z b.x

abbrev pub pair_z : Point → Point → ℤ
pair_z a b = pair a.x a.y b.x b.y
