-- Which diagonals of a loop are barred.
use Rattle.std.specs.Prelude.{Bool, not, ◌&&◌, ◌||◌, List, ℕ, ◌+◌, ◌%◌, eqb, ltb, length, get_or}
use Rattle.surface_rules.specs.Smallest.{least, any}
use Rattle.surface_rules.specs.Edges.{goes}

-- the loop of n goes on from position a to b
unfoldable pub follows : ℕ → ℕ → ℕ → Bool
follows n a b = eqb ((a + 1) % n) b

-- "A diagonal joins two vertices that aren't neighbours in the loop."
unfoldable pub diagonal : ℕ → ℕ → ℕ → Bool
diagonal n a b = ltb a n && ltb b n && not (eqb a b || follows n a b || follows n b a)

-- the triangles with these corners have an edge from u to v
unfoldable pub edge : List ℕ → ℕ → ℕ → Bool
edge corners u v = any (least (goes corners u v) (length corners))

-- they have "an edge between the two in either direction"
unfoldable pub between : List ℕ → ℕ → ℕ → Bool
between corners u v = edge corners u v || edge corners v u

-- "It is barred if the input, or a patch already laid in this run, has an edge between the two in either direction."
unfoldable pub barred : List ℕ → List ℕ → List ℕ → ℕ → ℕ → Bool
barred input laid ring a b =
    diagonal (length ring) a b
    && (between input (get_or ring a 0) (get_or ring b 0) || between laid (get_or ring a 0) (get_or ring b 0))
