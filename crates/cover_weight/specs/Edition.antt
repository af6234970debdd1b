-- Edition 1 of the patcher: weights are whole numbers, and a triangle on a loop weighs what its three points say.
use Rattle.std.specs.Prelude.{ℕ, ◌+◌, ◌<◌, List, ℤ, get_or}
use Rattle.cover_rules.specs.Weights.{Weights}
use Rattle.cover_weight.specs.declared.Point.{Point}
use Rattle.cover_weight.specs.Weight.{weight_of, point_of}

-- whole numbers as weights
abbrev pub naturals : Weights
naturals = record { W = ℕ; none = 0; add = ◌+◌; ◌≺◌ = ◌<◌ }

-- "the triangle with corners (vi, vk, vm)", of the loop whose position j lies at the point `at j`
abbrev pub tri_of : (ℕ → Point) → ℕ → ℕ → ℕ → ℕ
tri_of at i k m = weight_of (at i) (at k) (at m)

-- where the positions of a ring lie
abbrev pub along : List ℤ → List ℕ → ℕ → Point
along grid ring j = point_of grid (get_or ring j 0)
