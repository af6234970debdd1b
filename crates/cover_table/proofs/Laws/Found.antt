-- The last row's first stretch is the whole loop, so what it tells is the answer.
use mathlib.Core.Path.{◌≡◌, sym, ◌∙◌, subst}
use mathlib.Core.Bool.{Bool, true, false}
use mathlib.Core.List.{List}
use Prim.Native.Nat.{ℕ, ◌+◌, ◌-◌, ◌*◌, ◌/◌, ◌^◌, ◌≤◌, ◌<◌}
use native.Mathlib.Omega.{arith}
use lib.Dec.{T, ltb}
use lib.IntN.{ℤ}
use lib.ListN.{length}
use lib.Ieee.{Float, binary64, lt, in_unsigned, to_unsigned}
use borrow.Author.Tests.{ltb-true, ltb-false}
use Rattle.base_limits.specs.Limits.{longest}
use Rattle.cover_rules.specs.Covers.{Cover, Covers, weight, NoCover}
use Rattle.cover_rules.specs.Workings.Least.{Least}
use Rattle.cover_weight.specs.declared.Point.{Point}
use Rattle.cover_weight.specs.Edition.{naturals, tri_of, along}
use Rattle.cover_weight.proofs.Laws.Named.{named_on_grid}
use Rattle.grid_floats.proofs.Laws.Orders.{natural_less}
use Rattle.grid_floats.proofs.Laws.Casts.{natural_in_unsigned, natural_to_unsigned}
use Rattle.cover_column.specs.Workings.Columns.{cell, far_float, row, quarter_of}
use Rattle.cover_column.proofs.Laws.Rows.{row_more}
use Rattle.std.proofs.Common.{Some, None}
use Rattle.cover_table.specs.Workings.Told.{far, Told, some, none}
use Rattle.cover_table.specs.Workings.Table.{Tells, OnLoop, Points, Loop, Filled}
use Rattle.cover_table.specs.Workings.Loops.{Barring, TableRoom, FillsTable, LeastIs}
use Rattle.cover_table.proofs.Laws.Told.{told_near, told_most}
use Rattle.cover_table.proofs.Laws.Filling.{Fillable}
use Rattle.cover_table.proofs.Laws.Sweeps.{far_is, far_natural, light}

module _ {grid : List ℤ} {ring bars : List ℕ} {table : List Float} (r : TableRoom grid ring bars table) where
  pub many : (4 < length ring) × (length ring ≤ longest)
  many = (r.1, r.0.on.few)

  on_loop : (barred : ℕ → ℕ → Bool) → Barring barred ring bars → OnLoop (along grid ring) barred (length ring)
  on_loop barred b = record { near = λ j h. named_on_grid grid r.0.on.coordinates _; few = r.0.on.few; sides = b.sides }

  -- ---- the table is filled

  module _ {px py pz : List Float} (p : Points (along grid ring) (length ring) px py pz) where
    loop_of : (barred : ℕ → ℕ → Bool) → Barring barred ring bars → Loop (along grid ring) barred (length ring) px py pz bars
    loop_of barred b = record { on = on_loop barred b; points = p; rows = b.rows }

    pub fillable : Fillable (quarter_of table) (length ring) px py pz bars table
    fillable = record {
      at = along grid ring;
      barred = r.0.barred;
      loop = loop_of r.0.barred r.0.barring;
      some = omega (arith, many);
      table_long = record { deep = r.0.table_long r.1; four = omega arith };
    }

    pub fills_table : {table' : List Float} → length table' ≡ length table
        → ((at : ℕ → Point) (barred : ℕ → ℕ → Bool) → Loop at barred (length ring) px py pz bars → Filled at barred (quarter_of table) (length ring) table')
        → FillsTable grid ring bars table'
    fills_table {table'} long f barred b =
        subst (λ (l : ℕ). Filled (along grid ring) barred (l / 4) (length ring) table') (sym long) (f (along grid ring) barred (loop_of barred b))

  -- ---- the last row begins at a

  module _ {table' : List Float} (long : length table' ≡ length table) (f : FillsTable grid ring bars table') {a : ℕ} (e : a ≡ row (length ring - 1)) where
    pub place_in : 3 * quarter_of table' + a < length table'
    place_in =
        let d : row (length ring) ≤ length table / 4 = r.0.table_long r.1 in
        let g : row (length ring - 1) + (length ring - 1) ≤ row (length ring) = row_more (length ring - 1) (length ring) (omega (arith, many)) in
        omega (arith, many)

    module _ (barred : ℕ → ℕ → Bool) (b : Barring barred ring bars) where
      filled : Filled (along grid ring) barred (quarter_of table') (length ring) table'
      filled = f barred b

      light_here : (i k : ℕ) (c : Cover) → k < length ring → Covers i k c → weight naturals (tri_of (along grid ring)) i k c < far
      light_here = light (on_loop barred b)

      last : length ring - 1 < length ring
      last = omega (arith, many)

      tells : Tells (along grid ring) barred 0 (length ring - 1) (cell table' (3 * quarter_of table' + a))
      tells =
          subst (λ (q : ℕ). Tells (along grid ring) barred 0 (length ring - 1) (cell table' q)) (omega arith)
          (filled.weights 0 (length ring - 1) (omega (arith, many)) last)

      most : tells.weighs ≤ 2 ^ 53
      most = omega (arith, far_is, told_most light_here last tells.told)

      pub castable : (w : ℕ) → 53 < w → T (in_unsigned binary64 w (cell table' (3 * quarter_of table' + a)))
      castable w h = natural_in_unsigned w _ tells.weighs h tells.held most

      -- less than far was found, or not
      compared : lt (cell table' (3 * quarter_of table' + a)) far_float ≡ ltb tells.weighs far
      compared = natural_less _ _ _ _ tells.held far_natural

      pub found_some : (w : ℕ) → 53 < w → lt (cell table' (3 * quarter_of table' + a)) far_float ≡ true
          → LeastIs grid ring barred (Some (to_unsigned w (cell table' (3 * quarter_of table' + a)))) × Filled (along grid ring) barred (quarter_of table') (length ring) table'
      found_some w h q = (
        subst (Least naturals (tri_of (along grid ring)) barred 0 (length ring - 1)) (sym (natural_to_unsigned w _ tells.weighs h tells.held most))
            (told_near tells.told (ltb-true tells.weighs far (sym compared ∙ q))),
        filled,
      )

      pub found_none : lt (cell table' (3 * quarter_of table' + a)) far_float ≡ false
          → LeastIs grid ring barred None × Filled (along grid ring) barred (quarter_of table') (length ring) table'
      found_none q = (go tells.told, filled)
        where
          go : Told (tri_of (along grid ring)) barred 0 (length ring - 1) tells.weighs → NoCover barred 0 (length ring - 1)
          go (none n d) = n
          go (some l) =
              let g : tells.weighs < far = subst (λ (x : ℕ). x < far) l.weighs (light_here 0 (length ring - 1) l.cover last l.among.covers) in
              let h : far ≤ tells.weighs = ltb-false tells.weighs far (sym compared ∙ q) in
              absurd (omega arith)
