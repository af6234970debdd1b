-- Tide pools and lakes. "Each loop that is no rim is a tide pool if it shares a vertex with its own piece's rim, and a lake otherwise." The report has
-- "for each piece its rim, its tide pools and its lakes, in listed order".
use Rattle.std.specs.Prelude.{Bool, ◌&&◌, cond, ℕ, ◌+◌, ◌*◌, ◌/◌, eqb, ltb, ℤ, length, get_or}
use mathlib.Core.List.{List, [], ◌∷◌, ◌++◌, map, flatten}
use Rattle.surface_rules.specs.Smallest.{least, any}
use Rattle.loop_rules.specs.Loops.{loops, ring}
use Rattle.rim_pieces.specs.Computed.{numbers_below, piece_count}
use Rattle.rim_rules.specs.Rims.{loop_at, piece_at, is_rim}
use Rattle.chart_rules.specs.declared.Entry.{Entry}

-- v is one of the vertices
abbrev pub stands : List ℕ → ℕ → Bool
stands vertices v = any (least (λ i. eqb (get_or vertices i 0) v) (length vertices))

-- two rings share a vertex
abbrev pub meets : List ℕ → List ℕ → Bool
meets a b = any (least (λ i. stands b (get_or a i 0)) (length a))

-- the vertices of loop l
abbrev pub ring_at : List ℕ → ℕ → List ℕ
ring_at corners l = ring corners (loop_at corners l)

-- loop m is the rim of loop l's piece, and shares a vertex with it
unfoldable pub touches_at : List ℤ → List ℕ → ℕ → ℕ → Bool
touches_at grid corners l m = is_rim grid corners m && (eqb (piece_at corners m) (piece_at corners l) && meets (ring_at corners l) (ring_at corners m))

-- loop l "shares a vertex with its own piece's rim"
unfoldable pub touches : List ℤ → List ℕ → ℕ → Bool
touches grid corners l = any (least (touches_at grid corners l) (length (loops corners)))

-- "1 its rim, 2 a tide pool, 3 a lake"
unfoldable pub kind_at : List ℤ → List ℕ → ℕ → ℕ
kind_at grid corners l = cond (is_rim grid corners l) 1 (cond (touches grid corners l) 2 3)

-- "An entry is a kind and a number"
abbrev pub entry : ℕ → ℕ → Entry
entry kind number = record { kind = kind; number = number }

-- of the numbers those that p holds of, in their order
unfoldable pub pick : (ℕ → Bool) → List ℕ → List ℕ
pick p [] = []
pick p (x ∷ xs) = let rest = pick p xs in cond (p x) (x ∷ rest) rest

-- the loops of piece p that are of this kind, "in listed order"
unfoldable pub of_kind : List ℤ → List ℕ → ℕ → ℕ → List Entry
of_kind grid corners p kind =
    map (entry kind) (pick (λ l. eqb (piece_at corners l) p && eqb (kind_at grid corners l) kind) (numbers_below (length (loops corners))))

-- "0 a piece", and then "its rim, its tide pools and its lakes"
unfoldable pub entries_of : List ℤ → List ℕ → ℕ → List Entry
entries_of grid corners p = entry 0 p ∷ (of_kind grid corners p 1 ++ (of_kind grid corners p 2 ++ of_kind grid corners p 3))

-- "pieces ascend"
unfoldable pub report_of : List ℤ → List ℕ → List Entry
report_of grid corners = flatten (map (entries_of grid corners) (numbers_below (piece_count corners)))

-- as it stands in the lent buffer, two numbers an entry
abbrev pub numbers : Entry → List ℕ
numbers e = e.kind ∷ e.number ∷ []

unfoldable pub entry_numbers : List Entry → List ℕ
entry_numbers entries = flatten (map numbers entries)

-- entry i out of a buffer, or no kind where it has none
abbrev pub nothing : Entry
nothing = record { kind = 65535; number = 0 }

abbrev pub entry_in : List ℕ → ℕ → Entry
entry_in buffer i = cond (ltb i (length buffer / 2)) (record { kind = get_or buffer (2 * i) 0; number = get_or buffer (2 * i + 1) 0 }) nothing
