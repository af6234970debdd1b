-- One turn of a column: m..k is settled, and each stretch before it may take the way by m.
use mathlib.Core.Path.{◌≡◌, refl, sym, ap, ◌∙◌, subst}
use mathlib.Core.Logic.{inr, ⊎_elim}
use mathlib.Core.Bool.{Bool, true, false, cond, true≢false}
use mathlib.Core.List.{List}
use Prim.Native.Nat.{ℕ, suc, ◌+◌, ◌*◌, ◌^◌, ◌≤◌, ◌<◌}
use native.Mathlib.Nat.{le_trans, le_refl, le_of_lt, lt_of_le_of_lt, eq-or-lt_of_le}
use native.Mathlib.Omega.{arith}
use lib.Dec.{ltb, lit<}
use lib.IntN.{ℤ, nat_abs, ◌+ℤ◌, ◌-ℤ◌}
use lib.ListN.{length, get_or, set, length-set}
use lib.Seq.{get_or-set_same, get_or-set_other}
use lib.Ieee.{Float, nan, binary64, add, sub}
use borrow.Author.Tests.{ltb-true, ltb-false}
use Rattle.base_limits.specs.Limits.{longest}
use Rattle.cover_rules.specs.Covers.{Cover, Covers, weight}
use Rattle.cover_weight.specs.declared.Point.{Point}
use Rattle.cover_weight.specs.Weight.{weight_of}
use Rattle.cover_weight.specs.Edition.{naturals, tri_of}
use Rattle.cover_weight.proofs.Laws.Near.{most}
use Rattle.cover_weight.proofs.Laws.Totals.{cover_below}
use Rattle.grid_floats.specs.Workings.Whole.{Whole, Natural}
use Rattle.grid_floats.proofs.Laws.Sums.{whole_add, whole_sub, natural_add}
use Rattle.grid_floats.proofs.Laws.Orders.{natural_less}
use Rattle.grid_floats.proofs.Laws.Clearing.{whole_size}
use Rattle.grid_floats.proofs.Laws.Casts.{natural_far}
use Rattle.cover_bits.specs.Workings.Masks.{bit}
use Rattle.cover_column.specs.Workings.Columns.{cell, far_float, Table, row, gap_of, by_way, Sizable, RelaxRoom, Relaxed, lesser_of}
use Rattle.cover_column.proofs.Laws.Rows.{row_next, row_more, table_kept}
use Rattle.cover_table.specs.Workings.Products.{pair_x, pair_y, pair_z}
use Rattle.cover_table.specs.Workings.Told.{far, Told, Way, Lowest}
use Rattle.cover_table.specs.Workings.Table.{settled_of, Long, strips, Multiples, Tells, Due, OnLoop, Sweeping}
use Rattle.cover_table.proofs.Laws.Told.{told_side, told_barred, told_free, told_most, lowest_take, lowest_keep, lowest_skip}
use Rattle.cover_table.proofs.Laws.Products.{pair_most, sum_most, weight_by_products}

-- far, in figures, and three products are far below it
pub far_is : far ≡ 2 ^ 50
unfolding far
far_is = refl

pub far_natural : Natural far_float far
unfolding far
far_natural = natural_far

-- a gap of three products: the float is the whole number z, which is small
abbrev pub Gap : Float → ℤ → Type 0
Gap x z = Whole x z × (nat_abs z ≤ 3 * most)

pub gap : {x y z : Float} {p q r : ℤ} → Whole x p → Whole y q → Whole z r → nat_abs p ≤ most → nat_abs q ≤ most → nat_abs r ≤ most
    → Gap (add binary64 (sub binary64 x y) z) (p -ℤ q +ℤ r)
gap {x} {y} {z} {p} {q} {r} hx hy hz bp bq br =
    let b = sum_most p q r bp bq br in
    (whole_add (sub binary64 x y) z (p -ℤ q) r (whole_sub x y p q hx hy (le_trans b.0 (le_of_lt (lit< tt)))) hz (le_trans b.1 (le_of_lt (lit< tt))), b.1)

-- the products of two points are no greater than those of two on the grid can be
abbrev pub Most : Point → Point → Type 0
Most a b = (nat_abs (pair_x a b) ≤ most) × (nat_abs (pair_y a b) ≤ most) × (nat_abs (pair_z a b) ≤ most)

module _ {at : ℕ → Point} {barred : ℕ → ℕ → Bool} {n : ℕ} (l : OnLoop at barred n) where
  -- no cover of a loop on the grid weighs as much as far
  pub light : (i k : ℕ) (c : Cover) → k < n → Covers i k c → weight naturals (tri_of at) i k c < far
  light i k c h v = omega (arith, far_is, cover_below at n l.near i k h c v l.few)

  pub product_most : (i k : ℕ) → i < n → k < n → Most (at i) (at k)
  product_most i k hi hk =
      let a = l.near i hi in
      let b = l.near k hk in (
        pair_most (at i).y (at i).z (at k).y (at k).z a.near_y a.near_z b.near_y b.near_z,
        pair_most (at i).z (at i).x (at k).z (at k).x a.near_z a.near_x b.near_z b.near_x,
        pair_most (at i).x (at i).y (at k).x (at k).y a.near_x a.near_y b.near_x b.near_y,
      )

-- five numbers, added one after the other
summed : {a v x y z : Float} {u w p q r : ℕ} → Natural a u → Natural v w → Natural x p → Natural y q → Natural z r → u ≤ far → w ≤ far
    → p ≤ 3 * most → q ≤ 3 * most → r ≤ 3 * most
    → Natural (add binary64 (add binary64 (add binary64 (add binary64 a v) x) y) z) (u + w + p + q + r)
summed {a} {v} {x} {y} {z} {u} {w} {p} {q} {r} ha hv hx hy hz bu bw bp bq br =
    let f : far ≡ 2 ^ 50 = far_is in
    let g : 3 * most ≤ 2 ^ 40 = le_of_lt (lit< tt) in
    natural_add _ z (u + w + p + q) r
    (natural_add _ y (u + w + p) q
    (natural_add _ x (u + w) p (natural_add a v u w ha hv (omega arith)) hx (omega arith))
    hy (omega arith))
    hz (omega arith)

module _ {at : ℕ → Point} {barred : ℕ → ℕ → Bool} {quarter n k m : ℕ} {bars : List ℕ} {xs ys zs column table : List Float}
    (s : Sweeping at barred quarter n k (suc m) bars (strips xs ys zs column) table) where
  below : m < k
  below = s.reach

  in_m : m < n
  in_m = omega (arith, below, s.here)

  few : k < longest
  few = omega (arith, s.here, s.loop.few)

  -- ---- m..k is settled

  parts : (j : ℕ) → m < j → j < k → (u w : ℕ) × Told (tri_of at) barred m j u × Told (tri_of at) barred j k w
  parts j lo hi = let a = s.weights m j lo hi in let b = s.done j lo hi in (a.weighs, b.weighs, a.told, b.told)

  pub settled : {v : Float} → v ≡ settled_of (bit (get_or bars m 0) k) (cell column m) → Tells at barred m k v
  unfolding settled_of
  settled {v} f = go (bit (get_or bars m 0) k) (s.rows.tells m k in_m few) f (s.due m (le_refl (suc m)))
    where
      go : (b : Bool) → b ≡ barred m k → v ≡ cond b far_float (cell column m) → Due at barred m k (suc m) (cell column m) → Tells at barred m k v
      go true e f d =
          ⊎_elim
          (λ p. absurd (true≢false (e ∙ ap (barred m) (sym p.0) ∙ s.loop.sides m)))
          (λ p. record { weighs = far; held = subst (λ (x : Float). Natural x far) (sym f) far_natural; told = told_barred p.0 (sym e) })
          d.low
      go false e f d = record {
        weighs = d.weighs;
        held = subst (λ (x : Float). Natural x d.weighs) (sym f) d.held;
        told = ⊎_elim (λ p. rw p.1 (told_side (sym p.0))) (λ p. told_free (light s.loop) s.here p.0 parts p.1 (sym e)) d.low;
      }

  -- ---- its weight is written into the table

  module _ {v : Float} (t : Tells at barred m k v) where
    abbrev place : ℕ
    place = 3 * quarter + row k + m

    abbrev table' : List Float
    table' = set table place v

    kept : (q : ℕ) → (q ≡ place → ⊥) → cell table' q ≡ cell table q
    kept q d = get_or-set_other table place q v nan d

    -- a row of the loop lies within a part
    room : (j : ℕ) → j < n → row j + j ≤ quarter
    room j h = le_trans (row_more j n h) s.table_long.deep

    table_long' : Table n quarter table'
    table_long' = table_kept (length-set table place v) s.table_long

    place_in : place < length table
    place_in = omega (arith, room k s.here, below, s.table_long.four)

    products_kept : (i j : ℕ) → i < j → j ≤ k → Multiples at barred quarter table' i j
    products_kept i j lo hi =
        let p = s.products i j lo hi in
        let r : row j + j ≤ quarter = room j (omega (arith, s.here)) in
        record {
          x = subst (λ (f : Float). Whole f (pair_x (at i) (at j))) (sym (kept (row j + i) (λ e. absurd (omega arith)))) p.x;
          y = subst (λ (f : Float). Whole f (pair_y (at i) (at j))) (sym (kept (quarter + row j + i) (λ e. absurd (omega arith)))) p.y;
          z = subst (λ (f : Float). Whole f (pair_z (at i) (at j))) (sym (kept (2 * quarter + row j + i) (λ e. absurd (omega arith)))) p.z;
        }

    weights_kept : (i j : ℕ) → i < j → j < k → Tells at barred i j (cell table' (3 * quarter + row j + i))
    weights_kept i j lo hi =
        let r : row j + j ≤ row k = row_more j k hi in
        subst (Tells at barred i j) (sym (kept (3 * quarter + row j + i) (λ e. absurd (omega arith)))) (s.weights i j lo hi)

    done_more : (i : ℕ) → m ≤ i → i < k → Tells at barred i k (cell table' (3 * quarter + row k + i))
    done_more i lo hi =
        ⊎_elim
        (λ (e : m ≡ i). subst (λ (j : ℕ). Tells at barred j k (cell table' (3 * quarter + row k + j))) e (subst (Tells at barred m k) (sym (get_or-set_same table place v nan place_in)) t))
        (λ (g : m < i). subst (Tells at barred i k) (sym (kept (3 * quarter + row k + i) (λ e. absurd (omega arith)))) (s.done i g hi))
        (eq-or-lt_of_le lo)

    -- ---- the ways by m

    -- the gaps of the products of i and j, q and k, and m and k
    module _ {i j : ℕ} (q : ℕ) (lo : i < n) (hi : j < n) (p : Multiples at barred quarter table' i j) (g : q < k) where
      mk : Most (at m) (at k)
      mk = product_most s.loop m k in_m s.here

      ij : Most (at i) (at j)
      ij = product_most s.loop i j lo hi

      qk : Most (at q) (at k)
      qk = product_most s.loop q k (omega (arith, s.here)) s.here

      gap_x_lem : Gap (gap_of table' (row j + i) xs m q) (pair_x (at i) (at j) -ℤ pair_x (at q) (at k) +ℤ pair_x (at m) (at k))
      gap_x_lem = gap p.x (s.x q g) (s.x m below) ij.0 qk.0 mk.0

      gap_y_lem : Gap (gap_of table' (quarter + row j + i) ys m q) (pair_y (at i) (at j) -ℤ pair_y (at q) (at k) +ℤ pair_y (at m) (at k))
      gap_y_lem = gap p.y (s.y q g) (s.y m below) ij.1 qk.1 mk.1

      gap_z_lem : Gap (gap_of table' (2 * quarter + row j + i) zs m q) (pair_z (at i) (at j) -ℤ pair_z (at q) (at k) +ℤ pair_z (at m) (at k))
      gap_z_lem = gap p.z (s.z q g) (s.z m below) ij.2 qk.2 mk.2

      -- whatever the product at the place is of
      sizable_by : row j + i ≡ row m + q → Sizable quarter table' (row m) m xs ys zs q
      sizable_by e = record {
        x = pair_x (at i) (at j) -ℤ pair_x (at q) (at k) +ℤ pair_x (at m) (at k);
        y = pair_y (at i) (at j) -ℤ pair_y (at q) (at k) +ℤ pair_y (at m) (at k);
        z = pair_z (at i) (at j) -ℤ pair_z (at q) (at k) +ℤ pair_z (at m) (at k);
        x_whole = subst (λ (o : ℕ). Whole (gap_of table' o xs m q) (pair_x (at i) (at j) -ℤ pair_x (at q) (at k) +ℤ pair_x (at m) (at k))) e gap_x_lem.0;
        y_whole = subst (λ (o : ℕ). Whole (gap_of table' o ys m q) (pair_y (at i) (at j) -ℤ pair_y (at q) (at k) +ℤ pair_y (at m) (at k))) (omega arith) gap_y_lem.0;
        z_whole = subst (λ (o : ℕ). Whole (gap_of table' o zs m q) (pair_z (at i) (at j) -ℤ pair_z (at q) (at k) +ℤ pair_z (at m) (at k))) (omega arith) gap_z_lem.0;
      }

    -- at the place m of row m the next row begins
    sizable : (i : ℕ) → i ≤ m → Sizable quarter table' (row m) m xs ys zs i
    sizable i l =
        ⊎_elim
        (λ (e : i ≡ m).
        let f : row (suc m) ≡ row m + m = row_next m in
        sizable_by i (omega (arith, in_m)) (lt_of_le_of_lt below s.here) (products_kept 0 (suc m) (omega arith) below) (omega (arith, below)) (omega arith))
        (λ (g : i < m). sizable_by i (omega (arith, in_m)) in_m (products_kept i m g (le_of_lt below)) (omega (arith, below)) refl)
        (eq-or-lt_of_le l)

    pub relax_room : RelaxRoom quarter table' (row m) m xs ys zs column
    relax_room =
        let f : row (suc m) ≡ row m + m = row_next m in
        let g : row (suc m) + suc m ≤ quarter = room (suc m) (lt_of_le_of_lt below s.here) in
        record {
          inside = omega arith;
          four = table_long'.four;
          xs_long = omega (arith, in_m, s.xs_long);
          ys_long = omega (arith, in_m, s.ys_long);
          zs_long = omega (arith, in_m, s.zs_long);
          column_long = omega (arith, in_m, s.column_long);
          sizable = sizable;
        }

    module _ (i : ℕ) (g : i < m) where
      in_k : i < k
      in_k = omega (arith, below)

      before : Tells at barred i m (cell table' (3 * quarter + row m + i))
      before = weights_kept i m g below

      p : Multiples at barred quarter table' i m
      p = products_kept i m g (le_of_lt below)

      in_i : i < n
      in_i = omega (arith, in_m)

      by : ℕ
      by = weight_of (at i) (at k) (at m) + (before.weighs + t.weighs)

      way : Way (tri_of at) barred i k m by
      unfolding by
      way = record { low = g; high = below; left = before.weighs; right = t.weighs; left_told = before.told; right_told = t.told; makes = refl }

      by_held : Natural (by_way quarter table' (row m) m v xs ys zs i) by
      unfolding by_way by
      by_held =
          let x = gap_x_lem i in_i in_m p in_k in
          let y = gap_y_lem i in_i in_m p in_k in
          let z = gap_z_lem i in_i in_m p in_k in
          subst (Natural _) (regrouped _ _ _ _ _ ∙ ap (λ (x : ℕ). x + (before.weighs + t.weighs)) (sym (weight_by_products (at i) (at k) (at m))))
          (summed before.held t.held (whole_size _ _ x.0) (whole_size _ _ y.0) (whole_size _ _ z.0)
          (told_most (light s.loop) in_m before.told) (told_most (light s.loop) s.here t.told) x.1 y.1 z.1)
        where
          regrouped : (u w a b c : ℕ) → u + w + a + b + c ≡ a + (b + c) + (u + w)
          regrouped u w a b c = omega arith

      d : Due at barred i k (suc m) (cell column i)
      d = s.due i (omega arith)

      low : Lowest (tri_of at) barred i k (suc m) d.weighs
      low = ⊎_elim (λ e. absurd (omega (arith, below, e.0))) (λ e. e.1) d.low

      -- where m..k is far, nothing changes
      due_skips : far ≤ t.weighs → Due at barred i k m (cell column i)
      unfolding by
      due_skips f = record { weighs = d.weighs; held = d.held; low = inr (omega (arith, below), lowest_skip way low (omega arith)) }

      due_less : (x : Float) → x ≡ lesser_of (by_way quarter table' (row m) m v xs ys zs i) (cell column i) → Due at barred i k m x
      unfolding lesser_of
      due_less x e = go (ltb by d.weighs) refl
        where
          chosen : (b : Bool) → ltb by d.weighs ≡ b → x ≡ cond b (by_way quarter table' (row m) m v xs ys zs i) (cell column i)
          chosen b f = e ∙ ap (λ (c : Bool). cond c (by_way quarter table' (row m) m v xs ys zs i) (cell column i)) (natural_less _ _ by d.weighs by_held d.held ∙ f)

          go : (b : Bool) → ltb by d.weighs ≡ b → Due at barred i k m x
          go true f = record {
            weighs = by;
            held = subst (λ (y : Float). Natural y by) (sym (chosen true f)) by_held;
            low = inr (omega (arith, below), lowest_take way low (ltb-true by d.weighs f));
          }
          go false f = record {
            weighs = d.weighs;
            held = subst (λ (y : Float). Natural y d.weighs) (sym (chosen false f)) d.held;
            low = inr (omega (arith, below), lowest_keep way low (ltb-false by d.weighs f));
          }

    -- ---- the turn of m is done

    turned : (column' : List Float) → Long n column' → ((i : ℕ) → i < m → Due at barred i k m (cell column' i))
        → Sweeping at barred quarter n k m bars (strips xs ys zs column') table'
    turned column' l f = record {
      loop = s.loop;
      here = s.here;
      reach = le_of_lt below;
      rows = s.rows;
      xs_long = s.xs_long;
      ys_long = s.ys_long;
      zs_long = s.zs_long;
      column_long = l;
      table_long = table_long';
      x = s.x;
      y = s.y;
      z = s.z;
      products = products_kept;
      weights = weights_kept;
      done = done_more;
      due = f;
    }

    pub offered_skips : far ≤ t.weighs → Sweeping at barred quarter n k m bars (strips xs ys zs column) table'
    offered_skips f = turned column s.column_long (λ i g. due_skips i g f)

    pub offered_relaxes : {column' : List Float} → Long n column' → Relaxed quarter table' (row m) m v xs ys zs column column'
        → Sweeping at barred quarter n k m bars (strips xs ys zs column') table'
    offered_relaxes {column'} l r = turned column' l (λ i g. due_less i g (cell column' i) (r i g))
