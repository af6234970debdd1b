-- The table row by row: each column begins with the rows below it, and its sweep ends with its own.
use mathlib.Core.Path.{◌≡◌, refl, sym, ◌∙◌, subst}
use mathlib.Core.Bool.{Bool}
use mathlib.Core.List.{List}
use Prim.Native.Nat.{ℕ, ◌+◌, ◌≤◌, ◌<◌}
use native.Mathlib.Nat.{le_trans, lt_of_lt_of_le}
use native.Mathlib.Numerals.{add-one}
use native.Mathlib.Omega.{arith}
use lib.ListN.{length}
use lib.Ieee.{Float}
use Rattle.cover_weight.specs.declared.Point.{Point}
use Rattle.cover_column.specs.Workings.Columns.{Table, ProductsRoom, Multiplied, Copied}
use Rattle.cover_column.proofs.Laws.Rows.{table_fewer, table_kept}
use Rattle.cover_table.specs.Workings.Table.{Strips, strips, Loop, Filled, Sweeping, Sweepable, Swept}
use Rattle.cover_table.proofs.Laws.Fills.{sweeping_begins, filled_begins}

-- some loop's points and bars, and a table for it
pub record Fillable (quarter n : ℕ) (px py pz : List Float) (bars : List ℕ) (table : List Float) : Type 0 where
  pub at : ℕ → Point
  pub barred : ℕ → ℕ → Bool
  pub loop : Loop at barred n px py pz bars
  pub some : 0 < n
  pub table_long : Table n quarter table

-- The strips have room for so many positions.
module _ (room : ℕ) where
  pub record Sized (s : Strips) : Type 0 where
    pub xs : length s.xs ≡ room
    pub ys : length s.ys ≡ room
    pub zs : length s.zs ≡ room
    pub column : length s.column ≡ room

  -- the rows below k are made
  pub record Filling (quarter n : ℕ) (px py pz : List Float) (bars : List ℕ) (table₀ : List Float) (k : ℕ) (s : Strips) (table : List Float) : Type 0 where
    pub some : 0 < k
    pub most : k ≤ n
    pub sized : Sized s
    pub kept : length table ≡ length table₀
    pub fills : (at : ℕ → Point) (barred : ℕ → ℕ → Bool) → Loop at barred n px py pz bars → Filled at barred quarter k table

module _ {room quarter n : ℕ} (enough : n ≤ room) {px py pz : List Float} {bars : List ℕ} {table₀ : List Float} (f : Fillable quarter n px py pz bars table₀) where
  pub filling_begins : {s : Strips} → Sized room s → Filling room quarter n px py pz bars table₀ 1 s table₀
  filling_begins z = record {
    some = omega arith;
    most = f.some;
    sized = z;
    kept = refl;
    fills = λ at barred l. filled_begins f.some f.table_long;
  }

  module _ {k : ℕ} {xs₀ ys₀ zs₀ column₀ table : List Float} (p : Filling room quarter n px py pz bars table₀ k (strips xs₀ ys₀ zs₀ column₀) table) (h : k < n) where
    -- a strip that was as long as the others still is
    long : {l l₀ : ℕ} → l ≡ l₀ → l₀ ≡ room → n ≤ l
    long e g = omega arith

    pub products_room : ProductsRoom k quarter px py pz xs₀ ys₀ zs₀ column₀ table
    products_room = record {
      some = p.some;
      short = lt_of_lt_of_le h f.loop.on.few;
      px_long = le_trans h f.loop.points.px_long;
      py_long = le_trans h f.loop.points.py_long;
      pz_long = le_trans h f.loop.points.pz_long;
      xs_long = le_trans h (long refl p.sized.xs);
      ys_long = le_trans h (long refl p.sized.ys);
      zs_long = le_trans h (long refl p.sized.zs);
      column_long = le_trans h (long refl p.sized.column);
      table_long = table_fewer h (table_kept p.kept f.table_long);
    }

    module _ {xs ys zs column table₁ : List Float} (lx : length xs ≡ length xs₀) (ly : length ys ≡ length ys₀) (lz : length zs ≡ length zs₀)
        (lc : length column ≡ length column₀) (lt : length table₁ ≡ length table)
        (m : Multiplied k px py pz xs ys zs column × Copied k quarter xs ys zs table table₁) where
      begun : (at : ℕ → Point) (barred : ℕ → ℕ → Bool) → Loop at barred n px py pz bars → Sweeping at barred quarter n k k bars (strips xs ys zs column) table₁
      begun at barred l =
          sweeping_begins l h (long lx p.sized.xs) (long ly p.sized.ys) (long lz p.sized.zs) (long lc p.sized.column)
          (table_kept p.kept f.table_long) lt (p.fills at barred l) m.0 m.1

      pub sweep_room : Sweepable quarter k k bars (strips xs ys zs column) table₁
      sweep_room = record { at = f.at; barred = f.barred; n = n; sweeping = begun f.at f.barred f.loop }

      pub filling_on : {column' table₂ : List Float} → length column' ≡ length column → length table₂ ≡ length table₁
          → Swept quarter k bars (strips xs ys zs column) table₁ table₂ → Filling room quarter n px py pz bars table₀ (k + 1) (strips xs ys zs column') table₂
      filling_on {column'} {table₂} kc kt s = record {
        some = omega arith;
        most = omega arith;
        sized = record { xs = lx ∙ p.sized.xs; ys = ly ∙ p.sized.ys; zs = lz ∙ p.sized.zs; column = kc ∙ lc ∙ p.sized.column };
        kept = kt ∙ lt ∙ p.kept;
        fills = λ at barred l. subst (λ (x : ℕ). Filled at barred quarter x table₂) (sym (add-one k)) (s at barred n (begun at barred l));
      }

pub filling_ends : {room quarter n : ℕ} {px py pz : List Float} {bars : List ℕ} {table₀ : List Float} {k : ℕ} {s : Strips} {table : List Float} → n ≤ k
    → Filling room quarter n px py pz bars table₀ k s table → (at : ℕ → Point) (barred : ℕ → ℕ → Bool) → Loop at barred n px py pz bars
    → Filled at barred quarter n table
filling_ends {room} {quarter} {n} {k = k} {table = table} h p at barred l =
    let m : k ≤ n = p.most in subst (λ (x : ℕ). Filled at barred quarter x table) (omega arith) (p.fills at barred l)
