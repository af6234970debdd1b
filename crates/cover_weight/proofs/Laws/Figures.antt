-- Weights that the scope's examples state, found from the definition. In the last a component is lost where signs are dropped.
use mathlib.Core.Path.{◌≡◌, refl}
use Prim.Native.Nat.{ℕ, ◌+◌}
use lib.IntN.{pos, negsuc}
use Rattle.cover_weight.specs.declared.Point.{Point}
use Rattle.cover_weight.specs.Weight.{weight_of}

abbrev point : ℕ → ℕ → ℕ → Point
point x y z = record { x = pos x; y = pos y; z = pos z }

-- the patch (0,3,1),(1,3,2) of a square with one corner lifted
pub square : weight_of (point 0 0 0) (point 0 10 4) (point 10 0 0) + weight_of (point 10 0 0) (point 0 10 4) (point 10 10 0) ≡ 280
unfolding weight_of
square = refl

-- the patches (0,3,2),(0,2,1) and (0,3,1),(1,3,2) of a cone's rim
pub inner : weight_of (point 0 0 0) (point 0 10 0) (point 3 3 0) + weight_of (point 0 0 0) (point 3 3 0) (point 10 0 0) ≡ 60
unfolding weight_of
inner = refl

pub outer : weight_of (point 0 0 0) (point 0 10 0) (point 10 0 0) + weight_of (point 10 0 0) (point 0 10 0) (point 3 3 0) ≡ 140
unfolding weight_of
outer = refl

-- products of unlike signs
pub unlike : weight_of (point 0 0 0) (point 1 1 0) (record { x = pos 1; y = negsuc 0; z = pos 0 }) ≡ 2
unfolding weight_of
unlike = refl
