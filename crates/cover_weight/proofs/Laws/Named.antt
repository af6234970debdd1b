-- The points that numbers name: the machine gives their coordinates back as they stand, and each lies on the grid.
use mathlib.Core.Path.{◌≡◌, sym, ◌∙◌, subst}
use mathlib.Core.List.{List}
use Prim.Native.Nat.{ℕ, ◌+◌, ◌*◌}
use lib.IntN.{ℤ, pos}
use lib.ListN.{get_or}
use mir.Syntax.{w32}
use Rattle.cover_weight.specs.declared.Point.{Point}
use Rattle.cover_weight.specs.Weight.{weight_of, OnGrid, point_of, Coordinates}
use Rattle.cover_weight.proofs.Laws.Held.{held}
use Rattle.cover_weight.proofs.Laws.Apart.{widened}

module _ (grid : List ℤ) (h : Coordinates grid) where
  pub named_on_grid : (v : ℕ) → OnGrid (point_of grid v)
  unfolding point_of
  named_on_grid v = record { near_x = h (3 * v); near_y = h (3 * v + 1); near_z = h (3 * v + 2) }

  pub point_is :
      (v : ℕ)
      → ◌≡◌ {A = Point} (record { x = held w32 (get_or grid (3 * v) (pos 0)); y = held w32 (get_or grid (3 * v + 1) (pos 0)); z = held w32 (get_or grid (3 * v + 2) (pos 0)) })
      (point_of grid v)
  unfolding point_of
  point_is v =
      rw (
        widened (get_or grid (3 * v) (pos 0)) (h (3 * v)),
        widened (get_or grid (3 * v + 1) (pos 0)) (h (3 * v + 1)),
        widened (get_or grid (3 * v + 2) (pos 0)) (h (3 * v + 2)),
      )

  module _ (a b c : ℕ) {p q r : Point} (e : p ≡ point_of grid a) (f : q ≡ point_of grid b) (g : r ≡ point_of grid c) where
    pub three_on_grid : OnGrid p × OnGrid q × OnGrid r
    three_on_grid =
        (subst OnGrid (sym e) (named_on_grid a), subst OnGrid (sym f) (named_on_grid b), subst OnGrid (sym g) (named_on_grid c))

    pub weighs_named : {w : ℕ} → w ≡ weight_of p q r → w ≡ weight_of (point_of grid a) (point_of grid b) (point_of grid c)
    weighs_named i = i ∙ rw (e, f, g)
