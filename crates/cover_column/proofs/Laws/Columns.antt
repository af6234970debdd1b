-- The loops that write a column or a row, place by place.
use mathlib.Core.Path.{◌≡◌, refl, sym, ap, ◌∙◌, subst}
use mathlib.Core.Bool.{true, false}
use mathlib.Core.List.{List}
use Prim.Native.Nat.{ℕ, ◌+◌, ◌-◌, ◌*◌, ◌/◌, ◌≤◌, ◌<◌, zero-le}
use native.Mathlib.Nat.{le_refl}
use native.Mathlib.Omega.{arith}
use lib.ListN.{length, set, length-set}
use lib.Seq.{get_or-set_same, get_or-set_other}
use borrow.Author.Count.{below_more}
use lib.Ieee.{Float, nan, binary64, add, lt}
use Rattle.grid_floats.specs.Workings.Whole.{size_of}
use Rattle.cover_column.specs.Workings.Columns.{cell, lesser_of, Reaches, far_float, nought_float, product_of, ProductsRoom, Multiplied, gap_of, by_way, RelaxRoom, Relaxed}

pub lesser_first : (a b : Float) → lt a b ≡ true → a ≡ lesser_of a b
unfolding lesser_of
lesser_first a b e = rw e refl

pub lesser_second : (a b : Float) → lt a b ≡ false → b ≡ lesser_of a b
unfolding lesser_of
lesser_second a b e = rw e refl

-- one place more
pub cells_more : (P : ℕ → Float → Type 0) (l : List Float) (i : ℕ) (v : Float) → i < length l → ((j : ℕ) → j < i → P j (cell l j)) → P i v
    → (j : ℕ) → j < i + 1 → P j (cell (set l i v) j)
cells_more P l i v h all here =
    below_more (λ j. P j (cell (set l i v) j)) i
    (λ j g. subst (P j) (sym (get_or-set_other l i j v nan (λ e. absurd (omega arith)))) (all j g))
    (subst (P i) (sym (get_or-set_same l i v nan h)) here)

-- ---- the products

pub record Multiplying (k : ℕ) (px py pz : List Float) (i : ℕ) (xs ys zs column : List Float) : Type 0 where
  pub x : (j : ℕ) → j < i → cell xs j ≡ product_of (cell py j) (cell pz j) (cell py k) (cell pz k)
  pub y : (j : ℕ) → j < i → cell ys j ≡ product_of (cell pz j) (cell px j) (cell pz k) (cell px k)
  pub z : (j : ℕ) → j < i → cell zs j ≡ product_of (cell px j) (cell py j) (cell px k) (cell py k)
  pub unknown : (j : ℕ) → j < i → cell column j ≡ far_float
  pub most : i ≤ k
  pub xs_long : Reaches k xs
  pub ys_long : Reaches k ys
  pub zs_long : Reaches k zs
  pub column_long : Reaches k column

-- an array reaches as far when a place of it is written
reaches_on : {k : ℕ} (l : List Float) (i : ℕ) (v : Float) → Reaches k l → Reaches k (set l i v)
reaches_on {k} l i v h = subst (λ (n : ℕ). k < n) (sym (length-set l i v)) h

module _ {k : ℕ} {px py pz xs ys zs column : List Float} where
  pub multiplying_begins : {quarter : ℕ} {table : List Float} → ProductsRoom k quarter px py pz xs ys zs column table
      → Multiplying k px py pz 0 xs ys zs column
  multiplying_begins r = record {
    x = λ j h. absurd (omega arith);
    y = λ j h. absurd (omega arith);
    z = λ j h. absurd (omega arith);
    unknown = λ j h. absurd (omega arith);
    most = zero-le;
    xs_long = r.xs_long;
    ys_long = r.ys_long;
    zs_long = r.zs_long;
    column_long = r.column_long;
  }

  pub multiplying_more : {i : ℕ} → Multiplying k px py pz i xs ys zs column → i < k
      → Multiplying k px py pz (i + 1)
      (set xs i (product_of (cell py i) (cell pz i) (cell py k) (cell pz k)))
      (set ys i (product_of (cell pz i) (cell px i) (cell pz k) (cell px k)))
      (set zs i (product_of (cell px i) (cell py i) (cell px k) (cell py k)))
      (set column i far_float)
  multiplying_more {i} p h =
      let lx : k < length xs = p.xs_long in
      let ly : k < length ys = p.ys_long in
      let lz : k < length zs = p.zs_long in
      let lc : k < length column = p.column_long in
      record {
        x = cells_more (λ j v. v ≡ product_of (cell py j) (cell pz j) (cell py k) (cell pz k)) xs i _ (omega arith) p.x refl;
        y = cells_more (λ j v. v ≡ product_of (cell pz j) (cell px j) (cell pz k) (cell px k)) ys i _ (omega arith) p.y refl;
        z = cells_more (λ j v. v ≡ product_of (cell px j) (cell py j) (cell px k) (cell py k)) zs i _ (omega arith) p.z refl;
        unknown = cells_more (λ j v. v ≡ far_float) column i _ (omega arith) p.unknown refl;
        most = omega arith;
        xs_long = reaches_on xs i _ lx;
        ys_long = reaches_on ys i _ ly;
        zs_long = reaches_on zs i _ lz;
        column_long = reaches_on column i _ lc;
      }

  pub multiplied : {i : ℕ} → Multiplying k px py pz i xs ys zs column → k ≤ i → 0 < k → Multiplied k px py pz xs ys zs (set column (k - 1) nought_float)
  multiplied p e h =
      let lc : k < length column = p.column_long in
      record {
        x = λ j g. p.x j (omega arith);
        y = λ j g. p.y j (omega arith);
        z = λ j g. p.z j (omega arith);
        unknown = λ j g. get_or-set_other column (k - 1) j nought_float nan (λ f. absurd (omega arith)) ∙ p.unknown j (omega arith);
        side = get_or-set_same column (k - 1) nought_float nan (omega arith);
      }

-- ---- the steps of a column

module _ (quarter : ℕ) (table : List Float) (at m : ℕ) (v : Float) (xs ys zs : List Float) (i : ℕ) where
  pub way_is : (a b c : Float) → a ≡ size_of (gap_of table (at + i) xs m i) → b ≡ size_of (gap_of table (quarter + at + i) ys m i)
      → c ≡ size_of (gap_of table (2 * quarter + at + i) zs m i)
      → add binary64 (add binary64 (add binary64 (add binary64 (cell table (3 * quarter + at + i)) v) a) b) c ≡ by_way quarter table at m v xs ys zs i
  unfolding by_way
  way_is a b c e f g = rw (e, f, g)

pub record Relaxing (quarter : ℕ) (table : List Float) (at m : ℕ) (v : Float) (xs ys zs column₀ : List Float) (i : ℕ) (column : List Float) : Type 0 where
  pub done : (j : ℕ) → j < i → cell column j ≡ lesser_of (by_way quarter table at m v xs ys zs j) (cell column₀ j)
  pub most : i ≤ 2 * ((m + 1) / 2)
  pub ahead : (j : ℕ) → i ≤ j → cell column j ≡ cell column₀ j
  pub kept : length column ≡ length column₀

module _ {quarter : ℕ} {table : List Float} {at m : ℕ} {v : Float} {xs ys zs column₀ : List Float} (r : RelaxRoom quarter table at m xs ys zs column₀) where
  pub relaxing_begins : Relaxing quarter table at m v xs ys zs column₀ 0 column₀
  relaxing_begins = record { most = zero-le; done = λ j h. absurd (omega arith); ahead = λ j h. refl; kept = refl }

  pub relaxing_in : {i : ℕ} {column : List Float} → Relaxing quarter table at m v xs ys zs column₀ i column → i < 2 * ((m + 1) / 2) → i < length column
  relaxing_in p h = let l : m < length column₀ = r.column_long in omega (arith, p.kept)

  pub relaxing_more : {i : ℕ} {column : List Float} → Relaxing quarter table at m v xs ys zs column₀ i column → i < 2 * ((m + 1) / 2) → {s w : Float}
      → s ≡ by_way quarter table at m v xs ys zs i → w ≡ lesser_of s (cell column i) → Relaxing quarter table at m v xs ys zs column₀ (i + 1) (set column i w)
  relaxing_more {i} {column} p h {s} {w} e f = record {
    done =
        cells_more (λ j u. u ≡ lesser_of (by_way quarter table at m v xs ys zs j) (cell column₀ j)) column i w (relaxing_in p h) p.done
        (f ∙ ap (λ (x : Float). lesser_of x (cell column i)) e ∙ ap (λ (x : Float). lesser_of (by_way quarter table at m v xs ys zs i) x) (p.ahead i (le_refl i)));
    most = omega arith;
    ahead = λ j g. get_or-set_other column i j w nan (λ q. absurd (omega arith)) ∙ p.ahead j (omega arith);
    kept = length-set column i w ∙ p.kept;
  }

  pub relaxed : {i : ℕ} {column : List Float} → Relaxing quarter table at m v xs ys zs column₀ i column → i ≡ 2 * ((m + 1) / 2) → Relaxed quarter table at m v xs ys zs column₀ column
  relaxed p e j h = p.done j (omega arith)
