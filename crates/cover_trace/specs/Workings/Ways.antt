-- By which apex a stretch has its least weight, as the code finds it in the table.
use Rattle.std.specs.Prelude.{◌≡◌, Bool, true, false, List, ℕ, ◌+◌, ◌*◌, ◌<◌, ◌≤◌, ℤ, Float, length}
use Rattle.std.specs.Float.{binary64}
use Rattle.std.specs.Float.Ieee.{add, sub}
use Rattle.cover_rules.specs.Workings.Least.{Least, MadeAt}
use Rattle.cover_weight.specs.declared.Point.{Point}
use Rattle.cover_weight.specs.Edition.{naturals, tri_of}
use Rattle.grid_floats.specs.Workings.Whole.{Whole, size_of}
use Rattle.cover_column.specs.Workings.Columns.{cell}
use Rattle.cover_table.specs.Workings.Table.{OnLoop, Filled}

-- ---- the triangle on i..k with the apex m, by the products of its corners at three places of each part

abbrev pub gap_at : List Float → ℕ → ℕ → ℕ → Float
gap_at table im ik mk = add binary64 (sub binary64 (cell table im) (cell table ik)) (cell table mk)

abbrev pub gap_x : List Float → ℕ → ℕ → ℕ → Float
gap_x table im ik mk = gap_at table im ik mk

abbrev pub gap_y : ℕ → List Float → ℕ → ℕ → ℕ → Float
gap_y quarter table im ik mk = gap_at table (quarter + im) (quarter + ik) (quarter + mk)

abbrev pub gap_z : ℕ → List Float → ℕ → ℕ → ℕ → Float
gap_z quarter table im ik mk = gap_at table (2 * quarter + im) (2 * quarter + ik) (2 * quarter + mk)

unfoldable pub triangle_of : ℕ → List Float → ℕ → ℕ → ℕ → Float
triangle_of quarter table im ik mk =
    add binary64 (add binary64 (size_of (gap_x table im ik mk)) (size_of (gap_y quarter table im ik mk))) (size_of (gap_z quarter table im ik mk))

pub record TriangleRoom (quarter : ℕ) (table : List Float) (im ik mk : ℕ) : Type 0 where
  pub four : 4 * quarter ≤ length table
  pub im_in : im < quarter
  pub ik_in : ik < quarter
  pub mk_in : mk < quarter
  pub x : ℤ
  pub y : ℤ
  pub z : ℤ
  pub x_whole : Whole (gap_x table im ik mk) x
  pub y_whole : Whole (gap_y quarter table im ik mk) y
  pub z_whole : Whole (gap_z quarter table im ik mk) z

-- ---- the ways of a stretch of some loop

-- the table is the loop's, and i..k is a stretch of it that weighs w at least
pub record Weighed (at : ℕ → Point) (barred : ℕ → ℕ → Bool) (quarter n : ℕ) (table : List Float) (i k w : ℕ) : Type 0 where
  pub loop : OnLoop at barred n
  pub filled : Filled at barred quarter n table
  pub low : i < k
  pub high : k < n
  pub least : Least naturals (tri_of at) barred i k w

pub record Weighable (quarter : ℕ) (table : List Float) (i k : ℕ) : Type 0 where
  pub at : ℕ → Point
  pub barred : ℕ → ℕ → Bool
  pub n : ℕ
  pub w : ℕ
  pub weighed : Weighed at barred quarter n table i k w

-- r tells whether the stretch has its least weight by way of m
abbrev pub IsWay : ℕ → List Float → ℕ → ℕ → ℕ → Bool → Type 0
IsWay quarter table i k m r =
    (at : ℕ → Point) (barred : ℕ → ℕ → Bool) (n w : ℕ) → Weighed at barred quarter n table i k w
    → (r ≡ true → MadeAt naturals (tri_of at) barred i k w m) × (r ≡ false → MadeAt naturals (tri_of at) barred i k w m → ⊥)

-- m is the first by way of which it has
pub record First (at : ℕ → Point) (barred : ℕ → ℕ → Bool) (i k w m : ℕ) : Type 0 where
  pub made : MadeAt naturals (tri_of at) barred i k w m
  pub none_before : (j : ℕ) → j < m → MadeAt naturals (tri_of at) barred i k w j → ⊥

abbrev pub Middle : ℕ → List Float → ℕ → ℕ → ℕ → Type 0
Middle quarter table i k m =
    (at : ℕ → Point) (barred : ℕ → ℕ → Bool) (n w : ℕ) → Weighed at barred quarter n table i k w → First at barred i k w m
