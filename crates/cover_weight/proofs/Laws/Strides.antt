-- The parts of a short vector add up without wrapping, and the vector between two points that numbers name is short.
use mathlib.Core.Path.{◌≡◌, sym, ap, ◌∙◌, subst}
use mathlib.Core.List.{List}
use native.Mathlib.Nat.{lt_of_le_of_lt}
use native.Mathlib.Omega.{arith}
use Prim.Native.Nat.{ℕ, ◌+◌, ◌*◌, ◌≤◌}
use lib.Dec.{lit<}
use lib.IntN.{ℤ, nat_abs}
use mir.Syntax.{w64}
use mir.Val.{Fits}
use Rattle.base_limits.specs.Limits as limits
use Rattle.cover_weight.specs.declared.Point.{Point}
use Rattle.cover_weight.specs.declared.Vector.{Vector}
use Rattle.cover_weight.specs.Weight.{less, size, stride_of, point_of, Coordinates, Difference, OnGrid, Short}
use Rattle.cover_weight.proofs.Laws.Held.{held, same}
use Rattle.cover_weight.proofs.Laws.Near.{less_short}
use Rattle.cover_weight.proofs.Laws.Named.{named_on_grid}

-- the greatest that a stride can be
abbrev pub longest_stride : ℕ
longest_stride = 3 * (2 * limits.greatest)

part_is : (z : ℤ) → Difference z → held w64 z ≡ z
part_is z h = same w64 z (lt_of_le_of_lt h (lit< tt))

module _ {v : Vector} (h : Short v) where
  module _ {l m : ℕ} (e : l ≡ nat_abs (held w64 v.x)) (f : m ≡ nat_abs (held w64 v.y)) where
    first : l ≡ nat_abs v.x
    first = e ∙ ap nat_abs (part_is v.x h.short_x)

    second : m ≡ nat_abs v.y
    second = f ∙ ap nat_abs (part_is v.y h.short_y)

    pub two_parts_fit : Fits w64 (l + m)
    two_parts_fit = let x = h.short_x in let y = h.short_y in record { fits = omega (arith, first, second) }

    module _ {n : ℕ} (g : n ≡ nat_abs (held w64 v.z)) where
      third : n ≡ nat_abs v.z
      third = g ∙ ap nat_abs (part_is v.z h.short_z)

      pub parts_fit : Fits w64 (l + m + n)
      parts_fit = let x = h.short_x in let y = h.short_y in let z = h.short_z in record { fits = omega (arith, first, second, third) }

      pub parts_are : l + m + n ≡ size v
      parts_are = omega (arith, first, second, third)

  pub size_most : size v ≤ longest_stride
  size_most = let x = h.short_x in let y = h.short_y in let z = h.short_z in omega arith

pub point_on_grid : (grid : List ℤ) → Coordinates grid → (a : ℕ) {p : Point} → p ≡ point_of grid a → OnGrid p
point_on_grid grid h a e = subst OnGrid (sym e) (named_on_grid grid h a)

module _ (grid : List ℤ) (h : Coordinates grid) (a b : ℕ) {p q : Point} (e : p ≡ point_of grid b) (f : q ≡ point_of grid a) {v : Vector} (g : v ≡ less p q) where
  pub between_short : Short v
  between_short = subst Short (sym g) (less_short p q (point_on_grid grid h b e) (point_on_grid grid h a f))

  pub stride_is : {r : ℕ} → r ≡ size v → r ≡ stride_of grid a b
  unfolding stride_of
  stride_is i = i ∙ rw (g, e, f)

pub stride_most : (grid : List ℤ) → Coordinates grid → (a b : ℕ) → stride_of grid a b ≤ longest_stride
unfolding stride_of
stride_most grid h a b = size_most (less_short (point_of grid b) (point_of grid a) (named_on_grid grid h b) (named_on_grid grid h a))
