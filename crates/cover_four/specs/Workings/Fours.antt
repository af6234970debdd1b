-- A loop of four, which has two covers.
use Rattle.std.specs.Prelude.{◌≡◌, ◌⊎◌, Option, Some, None, Bool, true, false, List, ℕ, ◌+◌, ◌<◌, ◌≤◌, ℤ, length, get_or}
use Rattle.base_limits.specs.Limits as limits
use Rattle.cover_rules.specs.Covers.{Cover, empty, apex}
use Rattle.cover_weight.specs.Edition.{tri_of, along}
use Rattle.cover_bits.specs.Workings.Masks.{bit}
use Rattle.cover_table.specs.Workings.Loops.{OnGrid}

-- the two covers, by the apexes 1 and 2
abbrev pub one_way : Cover
one_way = apex 1 empty (apex 2 empty empty)

abbrev pub two_way : Cover
two_way = apex 2 (apex 1 empty empty) empty

-- what they weigh
abbrev pub by_one : List ℤ → List ℕ → ℕ
by_one grid ring = tri_of (along grid ring) 0 3 1 + tri_of (along grid ring) 1 3 2

abbrev pub by_two : List ℤ → List ℕ → ℕ
by_two grid ring = tri_of (along grid ring) 0 3 2 + tri_of (along grid ring) 0 2 1

pub record FourOn (grid : List ℤ) (ring bars : List ℕ) : Type 0 where
  pub on : OnGrid grid ring
  pub four : length ring ≡ 4
  pub rows : length bars ≡ limits.longest

pub record FourRoom (grid : List ℤ) (ring bars buffer : List ℕ) (p : ℕ) : Type 0 where
  pub there : FourOn grid ring bars
  pub room : p + 6 ≤ length buffer

-- r tells whether the second is taken, if either is
pub record GoesByTwo (grid : List ℤ) (ring bars : List ℕ) (r : Bool) : Type 0 where
  pub free : r ≡ true → bit (get_or bars 0 0) 2 ≡ false
  pub lighter : r ≡ true → bit (get_or bars 1 0) 3 ≡ false → by_two grid ring < by_one grid ring
  pub barred : r ≡ false → bit (get_or bars 1 0) 3 ≡ true → bit (get_or bars 0 0) 2 ≡ true
  pub heavier : r ≡ false → bit (get_or bars 1 0) 3 ≡ false → bit (get_or bars 0 0) 2 ≡ false → by_one grid ring ≤ by_two grid ring

-- r tells which of the two is taken
pub record Taken (grid : List ℤ) (ring bars : List ℕ) (r : Bool) : Type 0 where
  pub open_side : bit (get_or bars 0 0) 3 ≡ false
  pub goes : GoesByTwo grid ring bars r
  pub one_free : r ≡ false → bit (get_or bars 1 0) 3 ≡ false

-- or neither is allowed: the last side is barred, or both diagonals are
abbrev pub Takes : List ℤ → List ℕ → List ℕ → Option Bool → Type 0
Takes grid ring bars (Some r) = Taken grid ring bars r
Takes grid ring bars None = (bit (get_or bars 0 0) 3 ≡ true) ⊎ ((bit (get_or bars 1 0) 3 ≡ true) × (bit (get_or bars 0 0) 2 ≡ true))
