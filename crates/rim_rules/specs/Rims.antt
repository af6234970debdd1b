-- Rims. "In each piece the loop with the greatest run is its rim, run being the sum over its edges of the three absolute grid differences; among
-- equals the first listed."
use Rattle.std.specs.Prelude.{Bool, not, ◌&&◌, ◌||◌, List, [], ◌∷◌, map, ℕ, ◌+◌, ◌/◌, eqb, ltb, ℤ, length, get_or}
use Rattle.surface_rules.specs.Smallest.{least, any}
use Rattle.surface_rules.specs.Edges.{start_of, end_of}
use Rattle.loop_rules.specs.Loops.{loops}
use Rattle.loop_cut.specs.Listing.{first_of}
use Rattle.cover_weight.specs.Weight.{stride_of}
use Rattle.rim_pieces.specs.Computed.{numbers_below, piece_of}

-- loop l of the surface
abbrev pub loop_at : List ℕ → ℕ → List ℕ
loop_at corners l = get_or (loops corners) l []

-- "the three absolute grid differences", added, of one edge
unfoldable pub stride : List ℤ → List ℕ → ℕ → ℕ
stride grid corners e = stride_of grid (start_of corners e) (end_of corners e)

-- "the sum over its edges"
abbrev pub run_of : List ℤ → List ℕ → List ℕ → ℕ
run_of grid corners [] = 0
run_of grid corners (e ∷ l) = stride grid corners e + run_of grid corners l

unfoldable pub run_at : List ℤ → List ℕ → ℕ → ℕ
run_at grid corners l = run_of grid corners (loop_at corners l)

-- the piece of a loop: that of the triangle of its first half-edge
unfoldable pub piece_at : List ℕ → ℕ → ℕ
piece_at corners l = piece_of corners (first_of (loop_at corners l) / 3)

-- loop m comes before loop l as a rim: it lies in the same piece and has the greater run, or the same and is listed before
unfoldable pub outruns : List ℤ → List ℕ → ℕ → ℕ → Bool
outruns grid corners l m =
    eqb (piece_at corners m) (piece_at corners l)
    && (ltb (run_at grid corners l) (run_at grid corners m) || eqb (run_at grid corners l) (run_at grid corners m) && ltb m l)

-- loop l is the rim of its piece
unfoldable pub is_rim : List ℤ → List ℕ → ℕ → Bool
is_rim grid corners l = not (any (least (outruns grid corners l) (length (loops corners))))

-- which loops are, in listed order
abbrev pub rim_list : List ℤ → List ℕ → List Bool
rim_list grid corners = map (is_rim grid corners) (numbers_below (length (loops corners)))
