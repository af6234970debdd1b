-- What the functions give in vectors: the difference of two points, and the weight of a triangle.
use mathlib.Core.Path.{◌≡◌, sym, ap, ◌∙◌, subst}
use native.Mathlib.Nat.{lt_of_le_of_lt}
use Prim.Native.Nat.{ℕ}
use lib.Dec.{lit<}
use lib.IntN.{ℤ, ◌-ℤ◌}
use mir.Syntax.{w32, w64}
use Rattle.cover_weight.specs.declared.Point.{Point}
use Rattle.cover_weight.specs.declared.Vector.{Vector}
use Rattle.cover_weight.specs.Weight.{less, cross, size, weight_of, Coordinate, OnGrid, Short}
use Rattle.cover_weight.proofs.Laws.Held.{held, same}
use Rattle.cover_weight.proofs.Laws.Apart.{widened}
use Rattle.cover_weight.proofs.Laws.Near.{difference_near, less_short}

one_axis : (b a : ℤ) {r : ℤ} → Coordinate b → Coordinate a → r ≡ held w32 b -ℤ held w32 a → held w64 r ≡ b -ℤ a
one_axis b a hb ha e = ap (held w64) (e ∙ apart) ∙ same w64 (b -ℤ a) (lt_of_le_of_lt (difference_near b a hb ha) (lit< tt))
  where
    apart : held w32 b -ℤ held w32 a ≡ b -ℤ a
    apart = rw (widened b hb, widened a ha)

pub less_is :
    (b a : Point)
    {x y z : ℤ}
    → OnGrid b × OnGrid a
    → x ≡ held w32 b.x -ℤ held w32 a.x
    → y ≡ held w32 b.y -ℤ held w32 a.y
    → z ≡ held w32 b.z -ℤ held w32 a.z
    → ◌≡◌ {A = Vector} (record { x = held w64 x; y = held w64 y; z = held w64 z }) (less b a)
less_is b a h e f g =
    rw (
      one_axis b.x a.x h.0.near_x h.1.near_x e,
      one_axis b.y a.y h.0.near_y h.1.near_y f,
      one_axis b.z a.z h.0.near_z h.1.near_z g,
    )

module _ (a b c : Point) {u v : Vector} (e : u ≡ less b a) (f : v ≡ less c a) where
  pub both_short : OnGrid a × OnGrid b × OnGrid c → Short u × Short v
  both_short h = (subst Short (sym e) (less_short b a h.1 h.0), subst Short (sym f) (less_short c a h.2 h.0))

  pub weight_is : {r : ℕ} → r ≡ size (cross u v) → r ≡ weight_of a b c
  unfolding weight_of
  weight_is g = g ∙ rw (e, f)
