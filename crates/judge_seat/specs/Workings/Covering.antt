-- A patch set as a cover of a loop.
use Rattle.std.specs.Prelude.{List, ℕ, length}
use Rattle.cover_rules.specs.Covers.{Cover, Triangle, vertex_of}
use Rattle.cover_rules.specs.Sets.{Covered}

-- the set s of triangles, by their vertices, is the cover c of the ring
abbrev pub Covering : List ℕ → List Triangle → Cover → Type 0
Covering ring s c = Covered (length ring) (vertex_of ring) s c
