-- The points of a file are no more than its corners, so that what is lent may go by the facets.
use mathlib.Core.Path.{◌≡◌, refl, subst}
use mathlib.Core.List.{List}
use Prim.Native.Nat.{ℕ, zero, suc, ◌*◌, ◌≤◌}
use native.Mathlib.Omega.{arith}
use lib.ListN.{length}
use Rattle.stl_facets.specs.Facets.{facets}
use Rattle.stl_rules.specs.File.{corners_to, agree, point_at, corner_place}
use Rattle.stl_rules.specs.Reading.{none, all_corners, points_in}
use Rattle.stl_rules.proofs.Laws.Uses.{more_length, uses_few}

corners_length : (file : List ℕ) (n : ℕ) → length (corners_to file n) ≡ n
unfolding corners_to
corners_length file zero = refl
corners_length file (suc n) = omega (arith, more_length none (corners_to file n) (point_at file (corner_place n)), corners_length file n)

pub points_few_by_corners : (file : List ℕ) → length (points_in file) ≤ 3 * facets file
unfolding points_in
points_few_by_corners file = subst (λ (z : ℕ). length (points_in file) ≤ z) (corners_length file (3 * facets file)) (uses_few agree none (all_corners file))
