-- How great coordinates of the grid make their differences, those make a component, and three components make a weight.
use Prim.Native.Nat.{ℕ, ◌*◌, ◌≤◌}
use native.Mathlib.Nat.{le_trans, le_of_eq, mul-le-mul}
use native.Mathlib.Omega.{arith}
use lib.IntN.{ℤ, nat_abs, ◌-ℤ◌, ◌*ℤ◌}
use Rattle.base_limits.specs.Limits.{greatest}
use Rattle.cover_weight.specs.declared.Point.{Point}
use Rattle.cover_weight.specs.declared.Vector.{Vector}
use Rattle.cover_weight.specs.Weight.{less, cross, size, Coordinate, Difference, OnGrid, Short}
use Rattle.cover_weight.proofs.Laws.Sizes.{abs_difference, abs_product}

-- what a component is at most
abbrev pub most : ℕ
most = 2 * (2 * greatest * (2 * greatest))

pub difference_near : (b a : ℤ) → Coordinate b → Coordinate a → Difference (b -ℤ a)
difference_near b a hb ha = omega (arith, abs_difference b a)

product_near : (p q : ℤ) → Difference p → Difference q → nat_abs (p *ℤ q) ≤ 2 * greatest * (2 * greatest)
product_near p q hp hq = le_trans (le_of_eq (abs_product p q)) (mul-le-mul hp hq)

pub product_most : (p q : ℤ) → Difference p → Difference q → nat_abs (p *ℤ q) ≤ most
product_most p q hp hq = omega (arith, product_near p q hp hq)

pub component_most : (p q r s : ℤ) → Difference p → Difference q → Difference r → Difference s → nat_abs (p *ℤ q -ℤ r *ℤ s) ≤ most
component_most p q r s hp hq hr hs =
    omega (arith, abs_difference (p *ℤ q) (r *ℤ s), product_near p q hp hq, product_near r s hr hs)

pub less_short : (b a : Point) → OnGrid b → OnGrid a → Short (less b a)
less_short b a hb ha = record {
  short_x = difference_near b.x a.x hb.near_x ha.near_x;
  short_y = difference_near b.y a.y hb.near_y ha.near_y;
  short_z = difference_near b.z a.z hb.near_z ha.near_z;
}

module _ (u v : Vector) (h : Short u × Short v) where
  pub x_most : nat_abs (cross u v).x ≤ most
  x_most = component_most u.y v.z u.z v.y h.0.short_y h.1.short_z h.0.short_z h.1.short_y

  pub y_most : nat_abs (cross u v).y ≤ most
  y_most = component_most u.z v.x u.x v.z h.0.short_z h.1.short_x h.0.short_x h.1.short_z

  pub z_most : nat_abs (cross u v).z ≤ most
  z_most = component_most u.x v.y u.y v.x h.0.short_x h.1.short_y h.0.short_y h.1.short_x

  pub sizes_most : size (cross u v) ≤ 3 * most
  sizes_most = omega (arith, x_most, y_most, z_most)
