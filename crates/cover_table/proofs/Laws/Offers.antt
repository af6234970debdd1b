-- One turn of a column as the code makes it, with the rows' beginnings that it found.
use mathlib.Core.Path.{◌≡◌, refl, sym, ap, ◌∙◌, subst}
use mathlib.Core.Bool.{Bool, true, false, cond}
use mathlib.Core.List.{List}
use Prim.Native.Nat.{ℕ, suc, ◌+◌, ◌-◌, ◌*◌, ◌≤◌, ◌<◌}
use native.Mathlib.Nat.{le_refl, le_trans}
use native.Mathlib.Omega.{arith}
use lib.ListN.{length, get_or, set}
use lib.Ieee.{Float, lt}
use borrow.Author.Tests.{ltb-false}
use Rattle.base_limits.specs.Limits.{longest}
use Rattle.cover_weight.specs.declared.Point.{Point}
use Rattle.grid_floats.proofs.Laws.Orders.{natural_less}
use Rattle.cover_bits.specs.Workings.Masks.{bit}
use Rattle.cover_column.specs.Workings.Columns.{cell, far_float, row, RelaxRoom, Relaxed}
use Rattle.cover_column.proofs.Laws.Rows.{row_next, row_more}
use Rattle.cover_table.specs.Workings.Told.{far}
use Rattle.cover_table.specs.Workings.Table.{settled_of, Strips, strips, Sweeping, Sweepable, Offered, Swept}
use Rattle.cover_table.proofs.Laws.Sweeps.{far_natural, settled, relax_room, offered_skips, offered_relaxes}
use Rattle.cover_table.proofs.Laws.Fills.{sweeping_ends}

pub settled_barred : (b : Bool) (v : Float) → b ≡ true → far_float ≡ settled_of b v
unfolding settled_of
settled_barred b v e = ap (λ (x : Bool). cond x far_float v) (sym e)

pub settled_free : (b : Bool) (v : Float) → b ≡ false → v ≡ settled_of b v
unfolding settled_of
settled_free b v e = ap (λ (x : Bool). cond x far_float v) (sym e)

-- what the code asks of the places
pub record OfferRoom (quarter k m : ℕ) (bars : List ℕ) (column table : List Float) : Type 0 where
  pub here : k < longest
  pub below : m < k
  pub bars_long : length bars ≡ longest
  pub column_long : m < length column
  pub four : 4 * quarter ≤ length table
  pub inside : row k + k ≤ quarter

module _ {quarter k m : ℕ} {bars : List ℕ} {xs ys zs column table : List Float} where
  pub offer_room : Sweepable quarter k (suc m) bars (strips xs ys zs column) table → OfferRoom quarter k m bars column table
  offer_room r =
      let s = r.sweeping in
      let h : k < longest = omega (arith, s.here, s.loop.few) in
      record {
        here = h;
        below = s.reach;
        bars_long = s.rows.long;
        column_long = omega (arith, s.reach, s.here, s.column_long);
        four = s.table_long.four;
        inside = le_trans (row_more k r.n s.here) s.table_long.deep;
      }

  -- the stretch's place among the weights
  pub offer_place : Sweepable quarter k (suc m) bars (strips xs ys zs column) table → {a : ℕ} → a ≡ row k → 3 * quarter + a + m < length table
  offer_place r e = let o = offer_room r in omega (arith, o.inside, o.below, o.four)

  module _ {v : Float} {a : ℕ} (e : v ≡ settled_of (bit (get_or bars m 0) k) (cell column m)) (f : a ≡ row k) where
    pub offer_relaxes : {b : ℕ} → b ≡ row m → {column' : List Float} → length column' ≡ length column
        → Relaxed quarter (set table (3 * quarter + a + m) v) b m v xs ys zs column column'
        → Offered quarter k m bars (strips xs ys zs column) table (strips xs ys zs column') (set table (3 * quarter + a + m) v)
    offer_relaxes g {column'} l r at barred n s =
        subst (λ (x : ℕ). Sweeping at barred quarter n k m bars (strips xs ys zs column') (set table (3 * quarter + x + m) v)) (sym f)
        (offered_relaxes s (settled s e) (subst (λ (x : ℕ). n ≤ x) (sym l) s.column_long)
        (subst (λ (x : ℕ). Relaxed quarter (set table (3 * quarter + x + m) v) (row m) m v xs ys zs column column') f
        (subst (λ (x : ℕ). Relaxed quarter (set table (3 * quarter + a + m) v) x m v xs ys zs column column') g r)))

    pub offer_skips : lt v far_float ≡ false → Offered quarter k m bars (strips xs ys zs column) table (strips xs ys zs column) (set table (3 * quarter + a + m) v)
    offer_skips q at barred n s =
        let t = settled s e in
        subst (λ (x : ℕ). Sweeping at barred quarter n k m bars (strips xs ys zs column) (set table (3 * quarter + x + m) v)) (sym f)
        (offered_skips s t (ltb-false t.weighs far (sym (natural_less v far_float t.weighs far t.held far_natural) ∙ q)))

    pub offer_relax_room : {b : ℕ} → b ≡ row m → Sweepable quarter k (suc m) bars (strips xs ys zs column) table
        → RelaxRoom quarter (set table (3 * quarter + a + m) v) b m xs ys zs column
    offer_relax_room {b} g r =
        subst (λ (x : ℕ). RelaxRoom quarter (set table (3 * quarter + x + m) v) b m xs ys zs column) (sym f)
        (subst (λ (x : ℕ). RelaxRoom quarter (set table (3 * quarter + row k + m) v) x m xs ys zs column) (sym g) (relax_room r.sweeping (settled r.sweeping e)))

-- ---- a whole column

-- whatever loop's column was to be swept is swept as far as m
pub record Going (quarter k : ℕ) (bars : List ℕ) (s₀ : Strips) (table₀ : List Float) (m at : ℕ) (column table : List Float) : Type 0 where
  pub reach : m ≤ k
  pub begins : at ≡ row m
  pub column_kept : length column ≡ length s₀.column
  pub table_kept : length table ≡ length table₀
  pub sweeps : (at : ℕ → Point) (barred : ℕ → ℕ → Bool) (n : ℕ) → Sweeping at barred quarter n k k bars s₀ table₀
      → Sweeping at barred quarter n k m bars (strips s₀.xs s₀.ys s₀.zs column) table

module _ {quarter k : ℕ} {bars : List ℕ} {xs ys zs column₀ table₀ : List Float} where
  pub going_begins : {a : ℕ} → a ≡ row k → Going quarter k bars (strips xs ys zs column₀) table₀ k a column₀ table₀
  going_begins e = record { reach = le_refl k; begins = e; column_kept = refl; table_kept = refl; sweeps = λ at barred n s. s }

  module _ {m a : ℕ} {column table : List Float} (g : Going quarter k bars (strips xs ys zs column₀) table₀ m a column table) where
    module _ (h : 0 < m) where
      -- the row before ends where this one begins
      row_before : row m ≡ row (m - 1) + (m - 1)
      row_before = let e : suc (m - 1) ≡ m = omega arith in ap row (sym e) ∙ row_next (m - 1)

      pub row_there : m - 1 ≤ a
      row_there = omega (arith, row_before, g.begins)

      pub row_down : a - (m - 1) ≡ row (m - 1)
      row_down = omega (arith, row_before, g.begins)

      -- the next position down
      down : (at : ℕ → Point) (barred : ℕ → ℕ → Bool) (n : ℕ) → Sweeping at barred quarter n k k bars (strips xs ys zs column₀) table₀
          → Sweeping at barred quarter n k (suc (m - 1)) bars (strips xs ys zs column) table
      down at barred n s =
          let e : m ≡ suc (m - 1) = omega arith in
          subst (λ (x : ℕ). Sweeping at barred quarter n k x bars (strips xs ys zs column) table) e (g.sweeps at barred n s)

      pub going_room : Sweepable quarter k k bars (strips xs ys zs column₀) table₀ → Sweepable quarter k (suc (m - 1)) bars (strips xs ys zs column) table
      going_room r = record { at = r.at; barred = r.barred; n = r.n; sweeping = down r.at r.barred r.n r.sweeping }

      pub going_on : {column' table' : List Float} → length column' ≡ length column → length table' ≡ length table
          → Offered quarter k (m - 1) bars (strips xs ys zs column) table (strips xs ys zs column') table'
          → Going quarter k bars (strips xs ys zs column₀) table₀ (m - 1) (a - (m - 1)) column' table'
      going_on lc lt f = record {
        reach = omega (arith, g.reach);
        begins = row_down;
        column_kept = lc ∙ g.column_kept;
        table_kept = lt ∙ g.table_kept;
        sweeps = λ at barred n s. f at barred n (down at barred n s);
      }

    pub going_ends : m ≤ 0 → Swept quarter k bars (strips xs ys zs column₀) table₀ table
    going_ends h at barred n s = sweeping_ends (omega arith) (g.sweeps at barred n s)
