-- What the table holds, and what holds while it is made.
use Rattle.std.specs.Prelude.{◌≡◌, ◌⊎◌, Bool, false, cond, List, ℕ, suc, ◌+◌, ◌*◌, ◌<◌, ◌≤◌, length, Float}
use Rattle.base_limits.specs.Limits as limits
use Rattle.cover_weight.specs.declared.Point.{Point}
use Rattle.cover_weight.specs.Weight.{OnGrid}
use Rattle.cover_weight.specs.Edition.{tri_of}
use Rattle.grid_floats.specs.Workings.Whole.{Whole, Natural}
use Rattle.cover_bits.specs.Workings.Masks.{Rows}
use Rattle.cover_column.specs.Workings.Columns.{cell, far_float, Table, row}
use Rattle.cover_table.specs.Workings.Products.{pair_x, pair_y, pair_z}
use Rattle.cover_table.specs.Workings.Told.{Told, Lowest}

-- what m..k weighs once its bar is seen to
unfoldable pub settled_of : Bool → Float → Float
settled_of b v = cond b far_float v

-- an array for n positions
abbrev pub Long : ℕ → List Float → Type 0
Long n floats = n ≤ length floats

-- the points of n positions as floats
pub record Points (at : ℕ → Point) (n : ℕ) (px py pz : List Float) : Type 0 where
  pub x : (j : ℕ) → j < n → Whole (cell px j) (at j).x
  pub y : (j : ℕ) → j < n → Whole (cell py j) (at j).y
  pub z : (j : ℕ) → j < n → Whole (cell pz j) (at j).z
  pub px_long : Long n px
  pub py_long : Long n py
  pub pz_long : Long n pz

-- the four strips on which a column is swept: its products on the three planes, and its weights
pub record Strips : Type 0 where
  pub xs : List Float
  pub ys : List Float
  pub zs : List Float
  pub column : List Float

abbrev pub strips : List Float → List Float → List Float → List Float → Strips
strips xs ys zs column = record { xs = xs; ys = ys; zs = zs; column = column }

-- The loop's position j lies at the point `at j`.
module _ (at : ℕ → Point) (barred : ℕ → ℕ → Bool) where
  -- the float is what is told of i..k
  pub record Tells (i k : ℕ) (x : Float) : Type 0 where
    pub weighs : ℕ
    pub held : Natural x weighs
    pub told : Told (tri_of at) barred i k weighs

  -- the float is the lowest of the ways to i..k from m on
  pub record Due (i k m : ℕ) (x : Float) : Type 0 where
    pub weighs : ℕ
    pub held : Natural x weighs
    pub low : ((suc i ≡ k) × (weighs ≡ 0)) ⊎ ((suc i < k) × Lowest (tri_of at) barred i k m weighs)

  -- a loop of n positions on the grid, its sides not barred
  pub record OnLoop (n : ℕ) : Type 0 where
    pub near : (j : ℕ) → j < n → OnGrid (at j)
    pub few : n ≤ limits.longest
    pub sides : (j : ℕ) → barred j (suc j) ≡ false

-- The same loop, and a table whose parts are a quarter of it each.
module _ (at : ℕ → Point) (barred : ℕ → ℕ → Bool) (quarter : ℕ) where
  -- the table has the products of the points at i and k
  pub record Multiples (table : List Float) (i k : ℕ) : Type 0 where
    pub x : Whole (cell table (row k + i)) (pair_x (at i) (at k))
    pub y : Whole (cell table (quarter + row k + i)) (pair_y (at i) (at k))
    pub z : Whole (cell table (2 * quarter + row k + i)) (pair_z (at i) (at k))

  -- the table has all stretches of the positions below n
  pub record Filled (n : ℕ) (table : List Float) : Type 0 where
    pub long : Table n quarter table
    pub products : (i k : ℕ) → i < k → k < n → Multiples table i k
    pub weights : (i k : ℕ) → i < k → k < n → Tells at barred i k (cell table (3 * quarter + row k + i))

  -- column k, of which the stretches from m on are weighed
  pub record Sweeping (n k m : ℕ) (bars : List ℕ) (s : Strips) (table : List Float) : Type 0 where
    pub loop : OnLoop at barred n
    pub here : k < n
    pub reach : m ≤ k
    pub rows : Rows n barred bars
    pub xs_long : Long n s.xs
    pub ys_long : Long n s.ys
    pub zs_long : Long n s.zs
    pub column_long : Long n s.column
    pub table_long : Table n quarter table
    pub x : (i : ℕ) → i < k → Whole (cell s.xs i) (pair_x (at i) (at k))
    pub y : (i : ℕ) → i < k → Whole (cell s.ys i) (pair_y (at i) (at k))
    pub z : (i : ℕ) → i < k → Whole (cell s.zs i) (pair_z (at i) (at k))
    pub products : (i j : ℕ) → i < j → j ≤ k → Multiples table i j
    pub weights : (i j : ℕ) → i < j → j < k → Tells at barred i j (cell table (3 * quarter + row j + i))
    pub done : (i : ℕ) → m ≤ i → i < k → Tells at barred i k (cell table (3 * quarter + row k + i))
    pub due : (i : ℕ) → i < m → Due at barred i k m (cell s.column i)

-- ---- what the code's functions ask and give

-- some loop's column is swept as far as m
pub record Sweepable (quarter k m : ℕ) (bars : List ℕ) (s : Strips) (table : List Float) : Type 0 where
  pub at : ℕ → Point
  pub barred : ℕ → ℕ → Bool
  pub n : ℕ
  pub sweeping : Sweeping at barred quarter n k m bars s table

-- whatever loop's column was swept as far as m + 1 is now swept as far as m
abbrev pub Offered : ℕ → ℕ → ℕ → List ℕ → Strips → List Float → Strips → List Float → Type 0
Offered quarter k m bars s table s' table' =
    (at : ℕ → Point) (barred : ℕ → ℕ → Bool) (n : ℕ) → Sweeping at barred quarter n k (suc m) bars s table → Sweeping at barred quarter n k m bars s' table'

-- whatever loop's column was to be swept, the table has its row too
abbrev pub Swept : ℕ → ℕ → List ℕ → Strips → List Float → List Float → Type 0
Swept quarter k bars s table table' =
    (at : ℕ → Point) (barred : ℕ → ℕ → Bool) (n : ℕ) → Sweeping at barred quarter n k k bars s table → Filled at barred quarter (suc k) table'

-- the points and bars of a loop
pub record Loop (at : ℕ → Point) (barred : ℕ → ℕ → Bool) (n : ℕ) (px py pz : List Float) (bars : List ℕ) : Type 0 where
  pub on : OnLoop at barred n
  pub points : Points at n px py pz
  pub rows : Rows n barred bars
