-- What the table's user gives and gets: a loop by its ring on the grid, with its bars.
use Rattle.std.specs.Prelude.{◌≡◌, Option, Some, None, Bool, false, List, ℕ, suc, ◌-◌, ◌<◌, ◌≤◌, ℤ, length, get_or, Float}
use Rattle.base_limits.specs.Limits as limits
use Rattle.cover_rules.specs.Covers.{NoCover}
use Rattle.cover_rules.specs.Workings.Least as covers
use Rattle.cover_weight.specs.Weight.{Coordinates, Names}
use Rattle.cover_weight.specs.Edition.{naturals, tri_of, along}
use Rattle.cover_bits.specs.Workings.Masks.{Rows}
use Rattle.cover_column.specs.Workings.Columns.{quarter_of, TableFor}
use Rattle.cover_table.specs.Workings.Table.{Long, Filled}

-- the ring's vertices name points on the grid
pub record OnGrid (grid : List ℤ) (ring : List ℕ) : Type 0 where
  pub coordinates : Coordinates grid
  pub named : (j : ℕ) → j < length ring → Names grid (get_or ring j 0)
  pub few : length ring ≤ limits.longest

-- the rows of bars are those of `barred`, by which no side is barred
pub record Barring (barred : ℕ → ℕ → Bool) (ring bars : List ℕ) : Type 0 where
  pub rows : Rows (length ring) barred bars
  pub sides : (j : ℕ) → barred j (suc j) ≡ false

pub record GatherRoom (grid : List ℤ) (ring : List ℕ) (px py pz : List Float) : Type 0 where
  pub on : OnGrid grid ring
  pub px_long : Long (length ring) px
  pub py_long : Long (length ring) py
  pub pz_long : Long (length ring) pz

-- a loop of more than three edges with its bars, and a table that is long enough for it
pub record LoopRoom (grid : List ℤ) (ring bars : List ℕ) (table : List Float) : Type 0 where
  pub on : OnGrid grid ring
  pub some : 3 < length ring
  pub barred : ℕ → ℕ → Bool
  pub barring : Barring barred ring bars
  pub table_long : TableFor (length ring) table

-- the loop takes a table
abbrev pub TableRoom : List ℤ → List ℕ → List ℕ → List Float → Type 0
TableRoom grid ring bars table = LoopRoom grid ring bars table × (4 < length ring)

-- the table has all stretches of the loop, by whatever bars these rows are
abbrev pub FillsTable : List ℤ → List ℕ → List ℕ → List Float → Type 0
FillsTable grid ring bars table' =
    (barred : ℕ → ℕ → Bool) → Barring barred ring bars → Filled (along grid ring) barred (quarter_of table') (length ring) table'

-- the answer is the least weight of the loop's allowed covers, or that there are none
abbrev pub LeastIs : List ℤ → List ℕ → (ℕ → ℕ → Bool) → Option ℕ → Type 0
LeastIs grid ring barred (Some w) = covers.Least naturals (tri_of (along grid ring)) barred 0 (length ring - 1) w
LeastIs grid ring barred None = NoCover barred 0 (length ring - 1)

-- and the table has all stretches of the loop
abbrev pub Found : List ℤ → List ℕ → List ℕ → Option ℕ → List Float → Type 0
Found grid ring bars r table' =
    (barred : ℕ → ℕ → Bool) → Barring barred ring bars
    → LeastIs grid ring barred r × Filled (along grid ring) barred (quarter_of table') (length ring) table'
