-- Stamps: a number for each vertex.
use Rattle.std.specs.Prelude.{◌≡◌, Bool, false, List, ℕ, ◌<◌, eqb, length, get_or}
use Rattle.surface_rules.specs.Smallest.{least, any}
use Rattle.chart_rules.specs.Report.{stands}

-- each vertex of the ring has a place for its stamp
abbrev pub Inside : List ℕ → List ℕ → Type 0
Inside ring stamps = (i : ℕ) → i < length ring → get_or ring i 0 < length stamps

-- the vertices of the ring have this stamp, and the others theirs
pub record Stamps (ring stamps : List ℕ) (stamp : ℕ) (stamps' : List ℕ) : Type 0 where
  pub stamped : (i : ℕ) → i < length ring → get_or stamps' (get_or ring i 0) 0 ≡ stamp
  pub others : (v : ℕ) → stands ring v ≡ false → get_or stamps' v 0 ≡ get_or stamps v 0

-- vertex v has it
abbrev pub has_stamp : List ℕ → ℕ → ℕ → Bool
has_stamp stamps stamp v = eqb (get_or stamps v 0) stamp

-- a vertex of the ring has it
unfoldable pub any_stamp : List ℕ → List ℕ → ℕ → Bool
any_stamp ring stamps stamp = any (least (λ i. has_stamp stamps stamp (get_or ring i 0)) (length ring))
