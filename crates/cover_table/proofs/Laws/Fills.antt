-- A column begins with its products and no way but the side, and ends as a row of the table.
use mathlib.Core.Path.{◌≡◌, refl, sym, subst}
use mathlib.Core.Logic.{◌⊎◌, inl, inr, ⊎_elim}
use mathlib.Core.Bool.{Bool}
use mathlib.Core.List.{List}
use Prim.Native.Nat.{ℕ, suc, ◌+◌, ◌*◌, ◌≤◌, ◌<◌}
use native.Mathlib.Nat.{le_trans, le_refl, le_of_lt, eq-or-lt_of_le, le_of_suc-le-suc}
use native.Mathlib.Omega.{arith}
use lib.Dec.{lit<}
use lib.IntN.{ℤ, ◌*ℤ◌}
use lib.ListN.{length}
use lib.Ieee.{Float}
use Rattle.cover_weight.specs.declared.Point.{Point}
use Rattle.cover_weight.specs.Weight.{Coordinate, OnGrid}
use Rattle.grid_floats.specs.Workings.Whole.{Whole, Natural}
use Rattle.grid_floats.proofs.Laws.Sums.{whole_sub, whole_mul}
use Rattle.grid_floats.proofs.Laws.Casts.{natural_nought}
use Rattle.cover_column.specs.Workings.Columns.{cell, nought_float, Table, row, product_of, Multiplied, Copied}
use Rattle.cover_column.proofs.Laws.Rows.{row_more, table_fewer, table_kept}
use Rattle.cover_table.specs.Workings.Products.{pair, pair_x, pair_y, pair_z}
use Rattle.cover_table.specs.Workings.Told.{far}
use Rattle.cover_table.specs.Workings.Table.{Long, Strips, strips, Multiples, Tells, Due, Loop, Filled, Sweeping}
use Rattle.cover_table.proofs.Laws.Told.{lowest_begins}
use Rattle.cover_table.proofs.Laws.Products.{pair_most, product_small}
use Rattle.cover_table.proofs.Laws.Sweeps.{far_natural}

-- a product of two points on one plane
product_whole : {a b c d : Float} {y z s t : ℤ} → Whole a y → Whole b z → Whole c s → Whole d t
    → Coordinate y → Coordinate z → Coordinate s → Coordinate t → Whole (product_of a b c d) (pair y z s t)
unfolding product_of pair
product_whole {a} {b} {c} {d} {y} {z} {s} {t} ha hb hc hd ny nz ns nt =
    whole_sub _ _ (y *ℤ t) (z *ℤ s)
    (whole_mul a d y t ha hd (le_trans (product_small y t ny nt) (le_of_lt (lit< tt))))
    (whole_mul b c z s hb hc (le_trans (product_small z s nz ns) (le_of_lt (lit< tt))))
    (le_trans (pair_most y z s t ny nz ns nt) (le_of_lt (lit< tt)))

-- ---- a column begins

module _ {at : ℕ → Point} {barred : ℕ → ℕ → Bool} {n : ℕ} {px py pz : List Float} {bars : List ℕ} (l : Loop at barred n px py pz bars) {k : ℕ} (h : k < n)
    {quarter : ℕ} {xs ys zs column table table' : List Float} (lx : Long n xs) (ly : Long n ys) (lz : Long n zs) (lc : Long n column)
    (t : Table n quarter table) (lt : length table' ≡ length table) (f : Filled at barred quarter k table)
    (p : Multiplied k px py pz xs ys zs column) (c : Copied k quarter xs ys zs table table') where
  module _ (i : ℕ) (g : i < k) where
    in_i : i < n
    in_i = omega arith

    near_i : OnGrid (at i)
    near_i = l.on.near i in_i

    near_k : OnGrid (at k)
    near_k = l.on.near k h

    x_whole : Whole (cell xs i) (pair_x (at i) (at k))
    x_whole =
        subst (λ (v : Float). Whole v (pair_x (at i) (at k))) (sym (p.x i g))
        (product_whole (l.points.y i in_i) (l.points.z i in_i) (l.points.y k h) (l.points.z k h) near_i.near_y near_i.near_z near_k.near_y near_k.near_z)

    y_whole : Whole (cell ys i) (pair_y (at i) (at k))
    y_whole =
        subst (λ (v : Float). Whole v (pair_y (at i) (at k))) (sym (p.y i g))
        (product_whole (l.points.z i in_i) (l.points.x i in_i) (l.points.z k h) (l.points.x k h) near_i.near_z near_i.near_x near_k.near_z near_k.near_x)

    z_whole : Whole (cell zs i) (pair_z (at i) (at k))
    z_whole =
        subst (λ (v : Float). Whole v (pair_z (at i) (at k))) (sym (p.z i g))
        (product_whole (l.points.x i in_i) (l.points.y i in_i) (l.points.x k h) (l.points.y k h) near_i.near_x near_i.near_y near_k.near_x near_k.near_y)

  products_here : (i j : ℕ) → i < j → j ≤ k → Multiples at barred quarter table' i j
  products_here i j lo hi = go (eq-or-lt_of_le hi)
    where
      go : (j ≡ k) ⊎ (j < k) → Multiples at barred quarter table' i j
      go (inl e) =
          subst (Multiples at barred quarter table' i) (sym e)
          (record {
            x = subst (λ (v : Float). Whole v (pair_x (at i) (at k))) (sym (c.x i (omega arith))) (x_whole i (omega arith));
            y = subst (λ (v : Float). Whole v (pair_y (at i) (at k))) (sym (c.y i (omega arith))) (y_whole i (omega arith));
            z = subst (λ (v : Float). Whole v (pair_z (at i) (at k))) (sym (c.z i (omega arith))) (z_whole i (omega arith));
          })
      go (inr g) =
          let r : row j + j ≤ row k = row_more j k g in
          let m = f.products i j lo g in
          let b : row j + i < row k = omega arith in
          record {
            x = subst (λ (v : Float). Whole v (pair_x (at i) (at j))) (sym (c.x_below (row j + i) b)) m.x;
            y = subst (λ (v : Float). Whole v (pair_y (at i) (at j))) (sym (subst (λ (q : ℕ). cell table' q ≡ cell table q) (omega arith) (c.y_below (row j + i) b))) m.y;
            z = subst (λ (v : Float). Whole v (pair_z (at i) (at j))) (sym (subst (λ (q : ℕ). cell table' q ≡ cell table q) (omega arith) (c.z_below (row j + i) b))) m.z;
          }

  weights_here : (i j : ℕ) → i < j → j < k → Tells at barred i j (cell table' (3 * quarter + row j + i))
  weights_here i j lo hi =
      let b : row j + i < quarter = omega (arith, row_more j k hi, row_more k n h, t.deep) in
      subst (Tells at barred i j) (sym (subst (λ (q : ℕ). cell table' q ≡ cell table q) (omega arith) (c.weights (row j + i) b))) (f.weights i j lo hi)

  due_here : (i : ℕ) → i < k → Due at barred i k k (cell column i)
  due_here i g =
      ⊎_elim
      (λ (e : suc i ≡ k). record {
        weighs = 0;
        held = subst (λ (v : Float). Natural v 0) (sym (subst (λ (j : ℕ). cell column j ≡ nought_float) (omega arith) p.side)) natural_nought;
        low = inl (e, refl);
      })
      (λ (s : suc i < k). record {
        weighs = far;
        held = subst (λ (v : Float). Natural v far) (sym (p.unknown i s)) far_natural;
        low = inr (s, lowest_begins);
      })
      (eq-or-lt_of_le g)

  pub sweeping_begins : Sweeping at barred quarter n k k bars (strips xs ys zs column) table'
  sweeping_begins = record {
    loop = l.on;
    here = h;
    reach = le_refl k;
    rows = l.rows;
    xs_long = lx;
    ys_long = ly;
    zs_long = lz;
    column_long = lc;
    table_long = table_kept lt t;
    x = x_whole;
    y = y_whole;
    z = z_whole;
    products = products_here;
    weights = weights_here;
    done = λ i lo hi. absurd (omega arith);
    due = due_here;
  }

-- ---- a column ends

pub sweeping_ends : {at : ℕ → Point} {barred : ℕ → ℕ → Bool} {quarter n k m : ℕ} {bars : List ℕ} {s : Strips} {table : List Float} → m ≡ 0
    → Sweeping at barred quarter n k m bars s table → Filled at barred quarter (suc k) table
sweeping_ends {at} {barred} {quarter} {n} {k} {m} {bars} {s} {table} e p = record {
  long = table_fewer p.here p.table_long;
  products = λ i j lo hi. p.products i j lo (le_of_suc-le-suc hi);
  weights = λ i j lo hi.
      ⊎_elim
      (λ (f : j ≡ k). subst (λ (j : ℕ). Tells at barred i j (cell table (3 * quarter + row j + i))) (sym f) (p.done i (omega arith) (omega arith)))
      (λ (g : j < k). p.weights i j lo g)
      (eq-or-lt_of_le (le_of_suc-le-suc hi));
}

-- the first row is of nothing
pub filled_begins : {at : ℕ → Point} {barred : ℕ → ℕ → Bool} {n quarter : ℕ} {table : List Float} → 0 < n → Table n quarter table
    → Filled at barred quarter 1 table
filled_begins h t = record { long = table_fewer h t; products = λ i k lo hi. absurd (omega arith); weights = λ i k lo hi. absurd (omega arith) }
