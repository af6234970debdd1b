-- What the code compares for a way is its weight and the stretch's, so the comparison tells whether the way makes up the least weight.
use mathlib.Core.Path.{◌≡◌, refl, sym, ◌∙◌, subst}
use mathlib.Core.Bool.{Bool, true, false}
use mathlib.Core.List.{List}
use Prim.Native.Nat.{ℕ, ◌+◌, ◌*◌, ◌^◌, ◌≤◌, ◌<◌}
use native.Mathlib.Nat.{le_of_lt, lt_of_lt_of_le}
use native.Mathlib.Omega.{arith}
use lib.Dec.{leb, lit<}
use lib.IntN.{ℤ, ◌+ℤ◌, ◌-ℤ◌}
use lib.Ieee.{Float, binary64, add, lt, le}
use borrow.Author.Tests.{ltb-true, leb-true, leb-false}
use Rattle.base_limits.specs.Limits.{longest}
use Rattle.cover_rules.specs.Workings.Least.{MadeAt}
use Rattle.cover_weight.specs.declared.Point.{Point}
use Rattle.cover_weight.specs.Weight.{weight_of}
use Rattle.cover_weight.specs.Edition.{naturals, tri_of}
use Rattle.cover_weight.proofs.Laws.Near.{most}
use Rattle.grid_floats.specs.Workings.Whole.{Whole, Natural}
use Rattle.grid_floats.proofs.Laws.Sums.{natural_add}
use Rattle.grid_floats.proofs.Laws.Orders.{natural_less, natural_at_most}
use Rattle.grid_floats.proofs.Laws.Clearing.{whole_size}
use Rattle.cover_column.specs.Workings.Columns.{cell, row, Table}
use Rattle.cover_column.proofs.Laws.Rows.{row_more}
use Rattle.cover_table.specs.Workings.Products.{pair_x, pair_y, pair_z}
use Rattle.cover_table.specs.Workings.Told.{far, some, Way}
use Rattle.cover_table.specs.Workings.Table.{Multiples, Tells}
use Rattle.cover_table.proofs.Laws.Told.{told_unique, told_most, made_by, not_made_by}
use Rattle.cover_table.proofs.Laws.Products.{weight_by_products}
use Rattle.cover_table.proofs.Laws.Sweeps.{far_is, Gap, gap, Most, light, product_most}
use Rattle.cover_trace.specs.Workings.Ways.{gap_x, gap_y, gap_z, triangle_of, TriangleRoom, Weighed}

-- the stretches' places within a part
pub place_in : {n quarter : ℕ} {table : List Float} (i k : ℕ) → i < k → k < n → Table n quarter table → row k + i < quarter
place_in {n} i k h l t = omega (arith, row_more k n l, t.deep)

module _ {at : ℕ → Point} {barred : ℕ → ℕ → Bool} {quarter n : ℕ} {table : List Float} {i k w : ℕ} (p : Weighed at barred quarter n table i k w) where
  pub short : k < longest
  short = lt_of_lt_of_le p.high p.loop.few

  module _ {m : ℕ} (lo : i < m) (hi : m < k) where
    in_k : k < n
    in_k = p.high

    in_m : m < n
    in_m = omega (arith, in_k)

    in_i : i < n
    in_i = omega (arith, in_m)

    im : Multiples at barred quarter table i m
    im = p.filled.products i m lo in_m

    ik : Multiples at barred quarter table i k
    ik = p.filled.products i k p.low in_k

    mk : Multiples at barred quarter table m k
    mk = p.filled.products m k hi in_k

    most_im : Most (at i) (at m)
    most_im = product_most p.loop i m in_i in_m

    most_ik : Most (at i) (at k)
    most_ik = product_most p.loop i k in_i in_k

    most_mk : Most (at m) (at k)
    most_mk = product_most p.loop m k in_m in_k

    -- the table's places, added in another order
    at_place : (part r j : ℕ) {z : ℤ} → Whole (cell table (part + r + j)) z → Whole (cell table (part + (r + j))) z
    at_place part r j {z} h = subst (λ (q : ℕ). Whole (cell table q) z) (omega arith) h

    x_gap : Gap (gap_x table (row m + i) (row k + i) (row k + m)) (pair_x (at i) (at m) -ℤ pair_x (at i) (at k) +ℤ pair_x (at m) (at k))
    x_gap = gap im.x ik.x mk.x most_im.0 most_ik.0 most_mk.0

    y_gap : Gap (gap_y quarter table (row m + i) (row k + i) (row k + m)) (pair_y (at i) (at m) -ℤ pair_y (at i) (at k) +ℤ pair_y (at m) (at k))
    y_gap = gap (at_place quarter (row m) i im.y) (at_place quarter (row k) i ik.y) (at_place quarter (row k) m mk.y) most_im.1 most_ik.1 most_mk.1

    z_gap : Gap (gap_z quarter table (row m + i) (row k + i) (row k + m)) (pair_z (at i) (at m) -ℤ pair_z (at i) (at k) +ℤ pair_z (at m) (at k))
    z_gap = gap (at_place (2 * quarter) (row m) i im.z) (at_place (2 * quarter) (row k) i ik.z) (at_place (2 * quarter) (row k) m mk.z) most_im.2 most_ik.2 most_mk.2

    pub triangle_room : TriangleRoom quarter table (row m + i) (row k + i) (row k + m)
    triangle_room = record {
      four = p.filled.long.four;
      im_in = place_in i m lo in_m p.filled.long;
      ik_in = place_in i k p.low in_k p.filled.long;
      mk_in = place_in m k hi in_k p.filled.long;
      x = _;
      y = _;
      z = _;
      x_whole = x_gap.0;
      y_whole = y_gap.0;
      z_whole = z_gap.0;
    }

    small : 3 * most ≤ 2 ^ 40
    small = le_of_lt (lit< tt)

    triangle_held : Natural (triangle_of quarter table (row m + i) (row k + i) (row k + m)) (weight_of (at i) (at k) (at m))
    unfolding triangle_of
    triangle_held =
        subst (Natural _) (regrouped _ _ _ ∙ sym (weight_by_products (at i) (at k) (at m)))
        (natural_add _ _ _ _
        (natural_add _ _ _ _ (whole_size _ _ x_gap.0) (whole_size _ _ y_gap.0) (omega (arith, x_gap.1, y_gap.1, small)))
        (whole_size _ _ z_gap.0) (omega (arith, x_gap.1, y_gap.1, z_gap.1, small)))
      where
        regrouped : (a b c : ℕ) → a + b + c ≡ a + (b + c)
        regrouped a b c = omega arith

    triangle_most : weight_of (at i) (at k) (at m) ≤ 9 * most
    triangle_most = subst (λ (x : ℕ). x ≤ 9 * most) (sym (weight_by_products (at i) (at k) (at m))) (omega (arith, x_gap.1, y_gap.1, z_gap.1))

    -- what is told of the three stretches, at their places
    told_at : (a b : ℕ) → Tells at barred a b (cell table (3 * quarter + row b + a)) → Tells at barred a b (cell table (3 * quarter + (row b + a)))
    told_at a b t = subst (λ (q : ℕ). Tells at barred a b (cell table q)) (omega arith) t

    before : Tells at barred i m (cell table (3 * quarter + (row m + i)))
    before = told_at i m (p.filled.weights i m lo in_m)

    after : Tells at barred m k (cell table (3 * quarter + (row k + m)))
    after = told_at m k (p.filled.weights m k hi in_k)

    whole : Tells at barred i k (cell table (3 * quarter + (row k + i)))
    whole = told_at i k (p.filled.weights i k p.low in_k)

    whole_is : whole.weighs ≡ w
    whole_is = told_unique whole.told (some p.least)

    whole_held : Natural (cell table (3 * quarter + (row k + i))) w
    whole_held = subst (Natural _) whole_is whole.held

    way : Way (tri_of at) barred i k m (weight_of (at i) (at k) (at m) + (before.weighs + after.weighs))
    way = record { low = lo; high = hi; left = before.weighs; right = after.weighs; left_told = before.told; right_told = after.told; makes = refl }

    before_most : before.weighs ≤ far
    before_most = told_most (light p.loop) in_m before.told

    after_most : after.weighs ≤ far
    after_most = told_most (light p.loop) in_k after.told

    parts_held : Natural (add binary64 (cell table (3 * quarter + (row m + i))) (cell table (3 * quarter + (row k + m)))) (before.weighs + after.weighs)
    parts_held = let f : far ≡ 2 ^ 50 = far_is in natural_add _ _ _ _ before.held after.held (omega (arith, before_most, after_most))

    -- the two parts alone are too heavy
    pub parts_heavy : lt (cell table (3 * quarter + (row k + i))) (add binary64 (cell table (3 * quarter + (row m + i))) (cell table (3 * quarter + (row k + m)))) ≡ true
        → MadeAt naturals (tri_of at) barred i k w m → ⊥
    parts_heavy e =
        let l : w < before.weighs + after.weighs = ltb-true w (before.weighs + after.weighs) (sym (natural_less _ _ _ _ whole_held parts_held) ∙ e) in
        not_made_by way (omega arith)

    module _ {r : Bool} {x : Float} (f : x ≡ triangle_of quarter table (row m + i) (row k + i) (row k + m))
        (e : r ≡ le (add binary64 (add binary64 (cell table (3 * quarter + (row m + i))) (cell table (3 * quarter + (row k + m)))) x) (cell table (3 * quarter + (row k + i)))) where
      all_held : Natural (add binary64 (add binary64 (cell table (3 * quarter + (row m + i))) (cell table (3 * quarter + (row k + m)))) x) (before.weighs + after.weighs + weight_of (at i) (at k) (at m))
      all_held =
          let g : far ≡ 2 ^ 50 = far_is in
          let s : 9 * most ≤ 2 ^ 41 = le_of_lt (lit< tt) in
          natural_add _ _ _ _ parts_held (subst (λ (y : Float). Natural y (weight_of (at i) (at k) (at m))) (sym f) triangle_held) (omega (arith, before_most, after_most, triangle_most))

      compared : r ≡ leb (before.weighs + after.weighs + weight_of (at i) (at k) (at m)) w
      compared = e ∙ natural_at_most _ _ _ _ all_held whole_held

      pub way_is : r ≡ true → MadeAt naturals (tri_of at) barred i k w m
      way_is t =
          let l : before.weighs + after.weighs + weight_of (at i) (at k) (at m) ≤ w = leb-true _ _ (sym compared ∙ t) in
          made_by (light p.loop) p.high p.least way (omega arith)

      pub way_is_not : r ≡ false → MadeAt naturals (tri_of at) barred i k w m → ⊥
      way_is_not t =
          let l : w < before.weighs + after.weighs + weight_of (at i) (at k) (at m) = leb-false _ _ (sym compared ∙ t) in
          not_made_by way (omega arith)
