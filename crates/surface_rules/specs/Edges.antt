-- A surface and its edges. The corners are the list of all triangles' corners, three a triangle.
use Rattle.std.specs.Prelude.{◌≡◌, Bool, not, ◌&&◌, ◌||◌, List, ℕ, ◌+◌, ◌*◌, ◌/◌, ◌%◌, eqb, length, get_or, Option, None}
use Rattle.surface_rules.specs.Smallest.{least, any}

-- "Corner c of triangle t is half-edge 3t+c; it runs from that corner to the next one of t, the third corner being followed by
-- the first": the half-edge after h in its triangle, and the two points that h joins.
unfoldable pub following : ℕ → ℕ
following h = 3 * (h / 3) + (h % 3 + 1) % 3

abbrev pub start_of : List ℕ → ℕ → ℕ
start_of corners h = get_or corners h 0

abbrev pub end_of : List ℕ → ℕ → ℕ
end_of corners h = get_or corners (following h) 0

-- h goes from u to v
unfoldable pub goes : List ℕ → ℕ → ℕ → ℕ → Bool
goes corners u v h = eqb (start_of corners h) u && eqb (end_of corners h) v

-- a half-edge that goes the other way
unfoldable pub twin : List ℕ → ℕ → Option ℕ
twin corners h = least (goes corners (end_of corners h) (start_of corners h)) (length corners)

-- Open edge. "A half-edge u to v is open if no half-edge runs v to u."
unfoldable pub is_open : List ℕ → ℕ → Bool
is_open corners h = not (any (twin corners h))

-- "A half-edge has the same two ends in the same order as an earlier one."
unfoldable pub repeats : List ℕ → ℕ → Bool
repeats corners h = any (least (goes corners (start_of corners h) (end_of corners h)) h)

-- "A triangle names a point twice."
unfoldable pub twice : List ℕ → ℕ → Bool
twice corners t =
    eqb (start_of corners (3 * t)) (start_of corners (3 * t + 1)) || eqb (start_of corners (3 * t + 1)) (start_of corners (3 * t + 2)) || eqb (start_of corners (3 * t + 2)) (start_of corners (3 * t))

-- What holds of the corners once the refusals 2, 5 and 6 were not given.
pub record Sound (corners : List ℕ) : Type 0 where
  pub triples : length corners % 3 ≡ 0
  pub proper : least (twice corners) (length corners / 3) ≡ None
  pub single : least (repeats corners) (length corners) ≡ None
