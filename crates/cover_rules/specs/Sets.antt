-- Triangles of a patch set: "in any order, each begun at any corner, but not turned round".
use Rattle.std.specs.Prelude.{◌≡◌, ◌⊎◌, List, [], ◌∷◌, ◌++◌, map, ℕ, ◌-◌}
use Rattle.cover_rules.specs.Covers.{Cover, Triangle, Covers, on, triangles}

-- begun at the next corner
abbrev pub turned : Triangle → Triangle
turned t = record { first = t.second; second = t.third; third = t.first }

-- the same triangle, begun at any corner
abbrev pub Alike : Triangle → Triangle → Type 0
Alike s t = (s ≡ t) ⊎ ((s ≡ turned t) ⊎ (s ≡ turned (turned t)))

-- the set s lists the triangles ts in any order, each begun at any corner
abbrev pub ListsTriangles : List Triangle → List Triangle → Type 0
ListsTriangles s [] = s ≡ []
ListsTriangles s (t ∷ ts) = (a b : List Triangle) × (u : Triangle) × (s ≡ a ++ (u ∷ b)) × Alike u t × ListsTriangles (a ++ b) ts

-- the set s is the cover c of i..k
abbrev pub ListsCover : List Triangle → ℕ → ℕ → Cover → Type 0
ListsCover s i k c = Covers i k c × ListsTriangles s (triangles i k c)

-- the triangle whose corners are the vertices at these positions
abbrev pub named : (ℕ → ℕ) → Triangle → Triangle
named vertex t = on (vertex t.first) (vertex t.second) (vertex t.third)

-- the set s of triangles, by their vertices, is the cover c of the loop of n vertices
abbrev pub Covered : ℕ → (ℕ → ℕ) → List Triangle → Cover → Type 0
Covered n vertex s c = Covers 0 (n - 1) c × ListsTriangles s (map (named vertex) (triangles 0 (n - 1) c))
