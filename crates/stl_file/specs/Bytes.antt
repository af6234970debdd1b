-- The file of a surface: "binary STL: header zeros, normals zeros, attribute zero, original words of each point with negative zero written
-- as zero".
use mathlib.Core.List.{List, [], ◌∷◌, ◌++◌, map, flatten}
use Rattle.std.specs.Prelude.{ℕ, ◌+◌, ◌*◌, ◌/◌, ◌%◌, length, get_or, replicate}
use Rattle.surface_rules.specs.Threes.{Three, three, threes}
use Rattle.stl_facets.specs.Facets.{plain_zero}

-- how many bytes the header and a normal have
abbrev pub header_bytes : ℕ
header_bytes = 80

abbrev pub normal_bytes : ℕ
normal_bytes = 12

-- a word as four bytes, the lowest first
unfoldable pub four_bytes : ℕ → List ℕ
four_bytes w = w % 256 ∷ w / 256 % 256 ∷ w / 65536 % 256 ∷ w / 16777216 % 256 ∷ []

-- the words of point v, "with negative zero written as zero"
unfoldable pub point_of : List ℕ → ℕ → Three
point_of words v = three (plain_zero (get_or words (3 * v) 0)) (plain_zero (get_or words (3 * v + 1) 0)) (plain_zero (get_or words (3 * v + 2) 0))

unfoldable pub point_bytes : Three → List ℕ
point_bytes p = four_bytes p.first ++ (four_bytes p.second ++ four_bytes p.third)

-- a triangle by the numbers of its points: its normal, its three points and its attribute
unfoldable pub facet_of : List ℕ → Three → List ℕ
facet_of words t =
    replicate normal_bytes 0
    ++ (point_bytes (point_of words t.first) ++ (point_bytes (point_of words t.second) ++ (point_bytes (point_of words t.third) ++ (0 ∷ 0 ∷ []))))

-- the triangles' facets, one after the other
abbrev pub facets_of : List ℕ → List ℕ → List ℕ
facets_of words corners = flatten (map (facet_of words) (threes corners))

-- the header, the count and the facets
unfoldable pub file_of : List ℕ → List ℕ → List ℕ
file_of words corners = replicate header_bytes 0 ++ (four_bytes (length corners / 3) ++ facets_of words corners)
