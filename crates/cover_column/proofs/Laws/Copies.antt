-- Writing the products into a row: the three parts lie apart, so that a place written in one is none of another.
use mathlib.Core.Path.{◌≡◌, refl, sym, ◌∙◌, subst}
use mathlib.Core.List.{List}
use Prim.Native.Nat.{ℕ, suc, ◌+◌, ◌*◌, ◌≤◌, ◌<◌, zero-le}
use native.Mathlib.Omega.{arith}
use lib.ListN.{length, set, length-set}
use lib.Seq.{get_or-set_same, get_or-set_other}
use borrow.Author.Count.{below_more}
use lib.Ieee.{Float, nan}
use Rattle.cover_column.specs.Workings.Columns.{cell, product_of, row, ProductsRoom, Multiplied, Copied}
use Rattle.cover_column.proofs.Laws.Rows.{row_next}

-- the table once three products with i are written, where the row begins at `at`
abbrev pub filled : ℕ → ℕ → ℕ → Float → Float → Float → List Float → List Float
filled quarter at i u v w table = set (set (set table (at + i) u) (quarter + at + i) v) (2 * quarter + at + i) w

pub record Copying (k quarter at : ℕ) (px py pz table₀ : List Float) (i : ℕ) (table : List Float) : Type 0 where
  pub start : at ≡ row k
  pub inside : at + k ≤ quarter
  pub most : i ≤ k
  pub four : 4 * quarter ≤ length table₀
  pub kept : length table ≡ length table₀
  pub x : (j : ℕ) → j < i → cell table (at + j) ≡ product_of (cell py j) (cell pz j) (cell py k) (cell pz k)
  pub y : (j : ℕ) → j < i → cell table (quarter + at + j) ≡ product_of (cell pz j) (cell px j) (cell pz k) (cell px k)
  pub z : (j : ℕ) → j < i → cell table (2 * quarter + at + j) ≡ product_of (cell px j) (cell py j) (cell px k) (cell py k)
  pub x_below : (q : ℕ) → q < at → cell table q ≡ cell table₀ q
  pub y_below : (q : ℕ) → q < at → cell table (quarter + q) ≡ cell table₀ (quarter + q)
  pub z_below : (q : ℕ) → q < at → cell table (2 * quarter + q) ≡ cell table₀ (2 * quarter + q)
  pub weights : (q : ℕ) → q < quarter → cell table (3 * quarter + q) ≡ cell table₀ (3 * quarter + q)

module _ {k quarter at : ℕ} {px py pz table₀ : List Float} where
  pub copying_begins : {xs ys zs column : List Float} → ProductsRoom k quarter px py pz xs ys zs column table₀ → at ≡ row k
      → Copying k quarter at px py pz table₀ 0 table₀
  copying_begins r e =
      let f : row (suc k) ≡ row k + k = row_next k in
      let g : row (suc k) ≤ quarter = r.table_long.deep in
      record {
        start = e;
        inside = omega arith;
        most = zero-le;
        four = r.table_long.four;
        kept = refl;
        x = λ j h. absurd (omega arith);
        y = λ j h. absurd (omega arith);
        z = λ j h. absurd (omega arith);
        x_below = λ q h. refl;
        y_below = λ q h. refl;
        z_below = λ q h. refl;
        weights = λ q h. refl;
      }

  module _ {i : ℕ} {table : List Float} (p : Copying k quarter at px py pz table₀ i table) (l : i < k) where
    -- the three places lie in the table
    pub places_in : (at + i < length table) × (quarter + at + i < length table) × (2 * quarter + at + i < length table)
    places_in =
        let a : at + k ≤ quarter = p.inside in
        let b : 4 * quarter ≤ length table₀ = p.four in
        let c : length table ≡ length table₀ = p.kept in
        (omega arith, omega arith, omega arith)

    pub second_inside : (u : Float) → quarter + at + i < length (set table (at + i) u)
    second_inside u = simp length-set places_in.1

    pub third_inside : (u v : Float) → 2 * quarter + at + i < length (set (set table (at + i) u) (quarter + at + i) v)
    third_inside u v = simp length-set places_in.2

    module _ (u v w : Float) where
      -- a place that is none of the three is as it was
      elsewhere : (q : ℕ) → (q ≡ at + i → ⊥) → (q ≡ quarter + at + i → ⊥) → (q ≡ 2 * quarter + at + i → ⊥)
          → cell (filled quarter at i u v w table) q ≡ cell table q
      elsewhere q f g h =
          get_or-set_other (set (set table (at + i) u) (quarter + at + i) v) (2 * quarter + at + i) q w nan h
          ∙ get_or-set_other (set table (at + i) u) (quarter + at + i) q v nan g
          ∙ get_or-set_other table (at + i) q u nan f

      here_x : cell (filled quarter at i u v w table) (at + i) ≡ u
      here_x =
          let a : at + k ≤ quarter = p.inside in
          get_or-set_other (set (set table (at + i) u) (quarter + at + i) v) (2 * quarter + at + i) (at + i) w nan (λ e. absurd (omega arith))
          ∙ get_or-set_other (set table (at + i) u) (quarter + at + i) (at + i) v nan (λ e. absurd (omega arith))
          ∙ get_or-set_same table (at + i) u nan places_in.0

      here_y : cell (filled quarter at i u v w table) (quarter + at + i) ≡ v
      here_y =
          let a : at + k ≤ quarter = p.inside in
          get_or-set_other (set (set table (at + i) u) (quarter + at + i) v) (2 * quarter + at + i) (quarter + at + i) w nan (λ e. absurd (omega arith))
          ∙ get_or-set_same (set table (at + i) u) (quarter + at + i) v nan (second_inside u)

      here_z : cell (filled quarter at i u v w table) (2 * quarter + at + i) ≡ w
      here_z = get_or-set_same (set (set table (at + i) u) (quarter + at + i) v) (2 * quarter + at + i) w nan (third_inside u v)

      same_long : length (filled quarter at i u v w table) ≡ length table
      same_long = simp length-set

    -- the products of i and k
    abbrev x_of : Float
    x_of = product_of (cell py i) (cell pz i) (cell py k) (cell pz k)

    abbrev y_of : Float
    y_of = product_of (cell pz i) (cell px i) (cell pz k) (cell px k)

    abbrev z_of : Float
    z_of = product_of (cell px i) (cell py i) (cell px k) (cell py k)

    abbrev after : List Float
    after = filled quarter at i x_of y_of z_of table

    kept_at : (q : ℕ) → (q ≡ at + i → ⊥) → (q ≡ quarter + at + i → ⊥) → (q ≡ 2 * quarter + at + i → ⊥) → cell after q ≡ cell table q
    kept_at = elsewhere x_of y_of z_of

    pub copying_more : Copying k quarter at px py pz table₀ (i + 1) (filled quarter at i x_of y_of z_of table)
    copying_more =
        let a : at + k ≤ quarter = p.inside in
        record {
          start = p.start;
          inside = p.inside;
          most = omega arith;
          four = p.four;
          kept = same_long x_of y_of z_of ∙ p.kept;
          x =
              below_more (λ j. cell after (at + j) ≡ product_of (cell py j) (cell pz j) (cell py k) (cell pz k)) i
              (λ j h. kept_at (at + j) (λ e. absurd (omega arith)) (λ e. absurd (omega arith)) (λ e. absurd (omega arith)) ∙ p.x j h)
              (here_x x_of y_of z_of);
          y =
              below_more (λ j. cell after (quarter + at + j) ≡ product_of (cell pz j) (cell px j) (cell pz k) (cell px k)) i
              (λ j h. kept_at (quarter + at + j) (λ e. absurd (omega arith)) (λ e. absurd (omega arith)) (λ e. absurd (omega arith)) ∙ p.y j h)
              (here_y x_of y_of z_of);
          z =
              below_more (λ j. cell after (2 * quarter + at + j) ≡ product_of (cell px j) (cell py j) (cell px k) (cell py k)) i
              (λ j h. kept_at (2 * quarter + at + j) (λ e. absurd (omega arith)) (λ e. absurd (omega arith)) (λ e. absurd (omega arith)) ∙ p.z j h)
              (here_z x_of y_of z_of);
          x_below = λ q h. kept_at q (λ e. absurd (omega arith)) (λ e. absurd (omega arith)) (λ e. absurd (omega arith)) ∙ p.x_below q h;
          y_below =
              λ q h. kept_at (quarter + q) (λ e. absurd (omega arith)) (λ e. absurd (omega arith)) (λ e. absurd (omega arith)) ∙ p.y_below q h;
          z_below =
              λ q h. kept_at (2 * quarter + q) (λ e. absurd (omega arith)) (λ e. absurd (omega arith)) (λ e. absurd (omega arith)) ∙ p.z_below q h;
          weights =
              λ q h. kept_at (3 * quarter + q) (λ e. absurd (omega arith)) (λ e. absurd (omega arith)) (λ e. absurd (omega arith)) ∙ p.weights q h;
        }

  -- the row has what the strips have
  pub copied : {i : ℕ} {table : List Float} → Copying k quarter at px py pz table₀ i table → k ≤ i → {xs ys zs column : List Float}
      → Multiplied k px py pz xs ys zs column → Copied k quarter xs ys zs table₀ table
  copied {i} {table} p e {xs} {ys} {zs} m =
      let s : at ≡ row k = p.start in
      record {
        x = λ j h. subst (λ (n : ℕ). cell table (n + j) ≡ cell xs j) s (p.x j (omega arith) ∙ sym (m.x j h));
        y = λ j h. subst (λ (n : ℕ). cell table (quarter + n + j) ≡ cell ys j) s (p.y j (omega arith) ∙ sym (m.y j h));
        z = λ j h. subst (λ (n : ℕ). cell table (2 * quarter + n + j) ≡ cell zs j) s (p.z j (omega arith) ∙ sym (m.z j h));
        x_below = λ q h. p.x_below q (omega arith);
        y_below = λ q h. p.y_below q (omega arith);
        z_below = λ q h. p.z_below q (omega arith);
        weights = p.weights;
      }
