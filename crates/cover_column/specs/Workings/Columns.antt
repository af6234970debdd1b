-- What the code computes, float by float.
use Rattle.std.specs.Prelude.{◌≡◌, cond, List, ℕ, suc, ◌+◌, ◌*◌, ◌-◌, ◌/◌, ◌<◌, ◌≤◌, length, get_or, ℤ, Float}
use Rattle.std.specs.Float.{nan, binary64}
use Rattle.std.specs.Float.Ieee.{of_bits, add, sub, mul, lt}
use Rattle.base_limits.specs.Limits as limits
use Rattle.grid_floats.specs.Workings.Whole.{Whole, size_of}

-- element i of an array of floats
abbrev pub cell : List Float → ℕ → Float
cell floats i = get_or floats i nan

-- the floats that stand for "no allowed cover" and for no weight
abbrev pub far_float : Float
far_float = of_bits binary64 0x4310_0000_0000_0000

abbrev pub nought_float : Float
nought_float = of_bits binary64 0

-- the lesser of the two
unfoldable pub lesser_of : Float → Float → Float
lesser_of a b = cond (lt a b) a b

-- the array has a place for position k
abbrev pub Reaches : ℕ → List Float → Type 0
Reaches k floats = k < length floats

-- ---- places of the table

-- where row k begins, that of the stretches i..k
unfoldable pub row : ℕ → ℕ
row k = (k * k - k) / 2

-- how many stretches a loop has at most
abbrev pub pairs : ℕ
pairs = limits.longest * (limits.longest - 1) / 2

-- each of the table's four parts is a quarter of what is lent for it
abbrev pub quarter_of : List Float → ℕ
quarter_of table = length table / 4

-- four parts of that length stand in the table, and each has a place for every stretch of n positions
pub record Table (n quarter : ℕ) (table : List Float) : Type 0 where
  pub deep : row n ≤ quarter
  pub four : 4 * quarter ≤ length table

-- the table is long enough for a loop of n edges, if such a loop takes one: of four edges and fewer none does
abbrev pub TableFor : ℕ → List Float → Type 0
TableFor n table = 4 < n → row n ≤ quarter_of table

-- so many edges a short loop has at most
abbrev pub short : ℕ
short = 16

-- ---- the products of a column

unfoldable pub product_of : Float → Float → Float → Float → Float
product_of a b c d = sub binary64 (mul binary64 a d) (mul binary64 b c)

pub record ProductsRoom (k quarter : ℕ) (px py pz xs ys zs column table : List Float) : Type 0 where
  pub some : 0 < k
  pub short : k < limits.longest
  pub px_long : Reaches k px
  pub py_long : Reaches k py
  pub pz_long : Reaches k pz
  pub xs_long : Reaches k xs
  pub ys_long : Reaches k ys
  pub zs_long : Reaches k zs
  pub column_long : Reaches k column
  pub table_long : Table (suc k) quarter table

-- the products of k with each position before it, and of the stretches ..k only the side has a weight yet
pub record Multiplied (k : ℕ) (px py pz xs ys zs column : List Float) : Type 0 where
  pub x : (i : ℕ) → i < k → cell xs i ≡ product_of (cell py i) (cell pz i) (cell py k) (cell pz k)
  pub y : (i : ℕ) → i < k → cell ys i ≡ product_of (cell pz i) (cell px i) (cell pz k) (cell px k)
  pub z : (i : ℕ) → i < k → cell zs i ≡ product_of (cell px i) (cell py i) (cell px k) (cell py k)
  pub unknown : (i : ℕ) → suc i < k → cell column i ≡ far_float
  pub side : cell column (k - 1) ≡ nought_float

-- row k of the first three parts has the products; the rows below it and the fourth part are as they were
pub record Copied (k quarter : ℕ) (xs ys zs table table' : List Float) : Type 0 where
  pub x : (i : ℕ) → i < k → cell table' (row k + i) ≡ cell xs i
  pub y : (i : ℕ) → i < k → cell table' (quarter + row k + i) ≡ cell ys i
  pub z : (i : ℕ) → i < k → cell table' (2 * quarter + row k + i) ≡ cell zs i
  pub x_below : (q : ℕ) → q < row k → cell table' q ≡ cell table q
  pub y_below : (q : ℕ) → q < row k → cell table' (quarter + q) ≡ cell table (quarter + q)
  pub z_below : (q : ℕ) → q < row k → cell table' (2 * quarter + q) ≡ cell table (2 * quarter + q)
  pub weights : (q : ℕ) → q < quarter → cell table' (3 * quarter + q) ≡ cell table (3 * quarter + q)

-- ---- a step of the column

-- the product that the table has at a place, less the column's with i and with that with m
abbrev pub gap_of : List Float → ℕ → List Float → ℕ → ℕ → Float
gap_of table place column m i = add binary64 (sub binary64 (cell table place) (cell column i)) (cell column m)

-- what i..k weighs by way of m, where row m begins at `at` and m..k weighs v
unfoldable pub by_way : ℕ → List Float → ℕ → ℕ → Float → List Float → List Float → List Float → ℕ → Float
by_way quarter table at m v xs ys zs i =
    add binary64
    (add binary64
    (add binary64
    (add binary64 (cell table (3 * quarter + at + i)) v)
    (size_of (gap_of table (at + i) xs m i)))
    (size_of (gap_of table (quarter + at + i) ys m i)))
    (size_of (gap_of table (2 * quarter + at + i) zs m i))

-- what the step takes the size of are whole numbers
pub record Sizable (quarter : ℕ) (table : List Float) (at m : ℕ) (xs ys zs : List Float) (i : ℕ) : Type 0 where
  pub x : ℤ
  pub y : ℤ
  pub z : ℤ
  pub x_whole : Whole (gap_of table (at + i) xs m i) x
  pub y_whole : Whole (gap_of table (quarter + at + i) ys m i) y
  pub z_whole : Whole (gap_of table (2 * quarter + at + i) zs m i) z

pub record WayRoom (quarter : ℕ) (table : List Float) (at m : ℕ) (xs ys zs : List Float) (i : ℕ) : Type 0 where
  pub inside : at + i < quarter
  pub low : i ≤ m
  pub four : 4 * quarter ≤ length table
  pub xs_long : Reaches m xs
  pub ys_long : Reaches m ys
  pub zs_long : Reaches m zs
  pub sizable : Sizable quarter table at m xs ys zs i

pub record RelaxRoom (quarter : ℕ) (table : List Float) (at m : ℕ) (xs ys zs column : List Float) : Type 0 where
  pub inside : at + m < quarter
  pub four : 4 * quarter ≤ length table
  pub xs_long : Reaches m xs
  pub ys_long : Reaches m ys
  pub zs_long : Reaches m zs
  pub column_long : Reaches m column
  pub sizable : (i : ℕ) → i ≤ m → Sizable quarter table at m xs ys zs i

-- below m each place of the column takes the way by m where that is lighter
abbrev pub Relaxed : ℕ → List Float → ℕ → ℕ → Float → List Float → List Float → List Float → List Float → List Float → Type 0
Relaxed quarter table at m v xs ys zs column column' =
    (i : ℕ) → i < m → cell column' i ≡ lesser_of (by_way quarter table at m v xs ys zs i) (cell column i)
