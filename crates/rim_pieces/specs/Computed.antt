-- The smallest triangle of each piece, and from it the piece's number, computed: at first each triangle is a piece by itself, and then, half-edge by
-- half-edge, the pieces on its two sides are made one. `proofs/Theorems.antt` has that these are the numbers of the pieces.
use Rattle.std.specs.Prelude.{Bool, cond, List, [], ◌∷◌, ◌++◌, map, ℕ, zero, suc, ◌/◌, eqb, leb, length, get_or, Option, Some, None}
use Rattle.surface_rules.specs.Edges.{twin}
use Rattle.rim_pieces.specs.Pieces.{triangle_count}

-- how many indices below n have p
unfoldable pub many : (ℕ → Bool) → ℕ → ℕ
many p zero = 0
many p (suc n) = let before = many p n in cond (p n) (suc before) before

-- 0, 1 and so on below n
unfoldable pub numbers_below : ℕ → List ℕ
numbers_below zero = []
numbers_below (suc n) = numbers_below n ++ (n ∷ [])

-- what has the greater of the two gets the smaller
abbrev pub lesser : ℕ → ℕ → ℕ
lesser a b = cond (leb a b) a b

abbrev pub greater : ℕ → ℕ → ℕ
greater a b = cond (leb a b) b a

unfoldable pub unite : ℕ → ℕ → List ℕ → List ℕ
unite a b smallest = map (λ x. cond (eqb x (greater a b)) (lesser a b) x) smallest

abbrev pub unite_across : Option ℕ → ℕ → List ℕ → List ℕ
unite_across (Some g) h smallest = unite (get_or smallest (h / 3) 0) (get_or smallest (g / 3) 0) smallest
unite_across None h smallest = smallest

-- for each triangle the smallest that half-edges below k join it to
unfoldable pub smallest_by : List ℕ → ℕ → List ℕ
smallest_by corners zero = numbers_below (triangle_count corners)
smallest_by corners (suc k) = unite_across (twin corners k) k (smallest_by corners k)

-- the smallest triangle of t's piece
unfoldable pub smallest_of : List ℕ → ℕ → ℕ
smallest_of corners t = get_or (smallest_by corners (length corners)) t 0

-- "number (from 0, in the order of their smallest triangles)": as many as there are smaller smallest ones
unfoldable pub piece_of : List ℕ → ℕ → ℕ
piece_of corners t = many (λ s. eqb (smallest_of corners s) s) (smallest_of corners t)

-- the numbers of all triangles
abbrev pub piece_numbers : List ℕ → List ℕ
piece_numbers corners = map (piece_of corners) (numbers_below (triangle_count corners))

-- how many pieces there are: as many as smallest triangles
unfoldable pub piece_count : List ℕ → ℕ
piece_count corners = many (λ s. eqb (smallest_of corners s) s) (triangle_count corners)
