-- A file of facets, and the corners that it gives. "Header, normal and attribute are ignored."
use Rattle.std.specs.Prelude.{Bool, ◌&&◌, List, [], ◌∷◌, ◌++◌, ℕ, zero, suc, ◌+◌, ◌*◌, ◌/◌, ◌%◌, eqb, leb}
use Rattle.surface_rules.specs.Threes.{Three, three}
use Rattle.stl_facets.specs.Facets.{front, facet_bytes, plain_at}

-- not "fewer than 84 bytes or a length that isn't 84 plus 50 times the count": over whole numbers
unfoldable pub fits : ℕ → ℕ → Bool
fits long count = leb front long && eqb long (front + facet_bytes * count)

-- the three words at a place
unfoldable pub point_at : List ℕ → ℕ → Three
point_at b at = three (plain_at b at) (plain_at b (at + 4)) (plain_at b (at + 8))

-- where corner i of the file stands, three a facet, after its normal
unfoldable pub corner_place : ℕ → ℕ
corner_place i = front + facet_bytes * (i / 3) + 12 + 12 * (i % 3)

-- the first n corners
unfoldable pub corners_to : List ℕ → ℕ → List Three
corners_to b zero = []
corners_to b (suc n) = corners_to b n ++ (point_at b (corner_place n) ∷ [])

-- "Corners are the same point when all three words agree."
unfoldable pub agree : Three → Three → Bool
agree p q = eqb p.first q.first && eqb p.second q.second && eqb p.third q.third
