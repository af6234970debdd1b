-- What the code keeps while it matches a set: the stretches that have triangles, as rows.
use Rattle.std.specs.Prelude.{ℕ, suc, ◌-◌, ◌*◌, ◌<◌, ◌≤◌, ◌≡◌, Bool, true, false, List, [], length, get_or}
use Rattle.base_limits.specs.Limits as limits
use Rattle.surface_rules.specs.Threes.{threes}
use Rattle.cover_rules.specs.Covers.{Cover, Triangle, vertex_of}
use Rattle.cover_rules.specs.Workings.Matching.{In, Laid, Parted}
use Rattle.cover_bits.specs.Workings.Masks.{bit}
use Rattle.judge_seat.specs.Workings.Seats.{Ringed}
use Rattle.judge_seat.specs.Workings.Covering.{Covering}

-- a set of as many triangles as a cover of the ring has, and the rows of the ring's bars
pub record Matchable (ring stamps : List ℕ) (base : ℕ) (bars set : List ℕ) : Type 0 where
  pub ringed : Ringed ring base stamps
  pub many : 3 ≤ length ring
  pub rows : length bars ≡ limits.longest
  pub long : length set ≡ 3 * (length ring - 2)

-- no side but the last is barred
abbrev pub SidesFree : ℕ → (ℕ → ℕ → Bool) → Type 0
SidesFree n barred = (j : ℕ) → suc j < n → barred j (suc j) ≡ false

-- ---- the stretches that have triangles, as rows

-- row a has the digit b set exactly if the stretch a..b of the loop is a side or has a triangle in s
pub record Held (n : ℕ) (vertex : ℕ → ℕ) (s : List Triangle) (rows : List ℕ) : Type 0 where
  pub long : length rows ≡ limits.longest
  pub tells : (a b : ℕ) → a < n → b < limits.longest → bit (get_or rows a 0) b ≡ true → Laid n vertex s a b
  pub shows : (a b : ℕ) → a < n → b < limits.longest → Laid n vertex s a b → bit (get_or rows a 0) b ≡ true

-- what collecting the stretches of a set tells
abbrev pub Collected : List ℕ → List Triangle → List ℕ → Bool → Type 0
Collected ring s rows true = Held (length ring) (vertex_of ring) s rows
Collected ring s rows false = (c : Cover) → Covering ring s c → ⊥

pub record Collects (set stamps : List ℕ) (base : ℕ) (rows rows' : List ℕ) (r : Bool) : Type 0 where
  pub long : length rows' ≡ limits.longest
  pub collects : (ring : List ℕ) → Ringed ring base stamps → Held (length ring) (vertex_of ring) [] rows → Collected ring (threes set) rows' r

-- what asking for both parts of every stretch tells
abbrev pub Closed : List ℕ → List Triangle → Bool → Type 0
Closed ring s true = (t : Triangle) → In t s → Parted (length ring) (vertex_of ring) s t
Closed ring s false = (c : Cover) → Covering ring s c → ⊥

abbrev pub Closes : List ℕ → List ℕ → ℕ → List ℕ → Bool → Type 0
Closes set stamps base rows r =
    (ring : List ℕ) → Ringed ring base stamps → Held (length ring) (vertex_of ring) (threes set) rows → Closed ring (threes set) r

-- whether a digit is set in two rows at once
abbrev pub Clashes : ℕ → List ℕ → List ℕ → Bool → Type 0
Clashes n rows bars true =
    (a : ℕ) × (b : ℕ) × (suc a < n) × (b < limits.longest) × (bit (get_or rows a 0) b ≡ true) × (bit (get_or bars a 0) b ≡ true)
Clashes n rows bars false =
    (a b : ℕ) → suc a < n → b < limits.longest → bit (get_or rows a 0) b ≡ true → bit (get_or bars a 0) b ≡ false
