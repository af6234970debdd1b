-- What the code finds of each triangle of a set: its seat, its positions turned so that the third lies between the other two.
use Rattle.std.specs.Prelude.{ℕ, ◌<◌, ◌≤◌, ◌≡◌, Option, Some, None, List, length, get_or}
use Rattle.base_limits.specs.Limits as limits
use Rattle.cover_rules.specs.Covers.{Triangle, on, vertex_of}
use Rattle.cover_rules.specs.Sets.{Alike, named}
use Rattle.cover_rules.specs.Workings.Matching.{Seated}
use Rattle.cover_bars.specs.Workings.Chains.{Stamped}
use Rattle.cover_sum.specs.Workings.Triples.{triple_at}
use Rattle.judge_seat.specs.declared.Seat.{Seat}

-- ---- a ring and its stamps

-- the stamps are those of a ring of points that is not long
pub record Ringed (ring : List ℕ) (base : ℕ) (stamps : List ℕ) : Type 0 where
  pub stamped : Stamped ring base stamps
  pub inside : (j : ℕ) → j < length ring → get_or ring j 0 < limits.points
  pub few : length ring ≤ limits.longest

-- where the point v lies on the ring: at the position r, or nowhere
abbrev pub Lies : List ℕ → ℕ → Option ℕ → Type 0
Lies ring v (Some r) = (r < length ring) × (get_or ring r 0 ≡ v)
Lies ring v None = (j : ℕ) → j < length ring → get_or ring j 0 ≡ v → ⊥

-- ---- seats

-- the triangle of a seat's positions
abbrev pub placed : Seat → Triangle
placed s = on s.from s.to s.between

-- the triangle t of positions, turned
abbrev pub SeatedAs : Triangle → Option Seat → Type 0
SeatedAs t (Some s) = (s.from < s.between) × (s.between < s.to) × Alike t (placed s)
SeatedAs t None = (u : Triangle) → u.first < u.third → u.third < u.second → Alike t u → ⊥

-- the positions of a seat stand within a row
abbrev pub Fits : Option Seat → Type 0
Fits (Some s) = (s.from < s.between) × (s.between < s.to) × (s.to < limits.longest)
Fits None = Unit {0}

-- the seat of the triangle t of vertices
abbrev pub SeatOf : ℕ → (ℕ → ℕ) → Triangle → Option Seat → Type 0
SeatOf n vertex t (Some s) = Seated n (placed s) × Alike t (named vertex (placed s))
SeatOf n vertex t None = (u : Triangle) → Seated n u → Alike t (named vertex u) → ⊥

-- the seat of the triangle whose corners stand from q on, whatever ring has these stamps
pub record SeatFound (set : List ℕ) (q : ℕ) (stamps : List ℕ) (base : ℕ) (r : Option Seat) : Type 0 where
  pub fits : Fits r
  pub seat : (ring : List ℕ) → Ringed ring base stamps → SeatOf (length ring) (vertex_of ring) (triple_at set q) r
