-- The points of a ring, read from the grid one by one.
use mathlib.Core.Path.{◌≡◌, refl, sym, ap, ◌∙◌, subst}
use mathlib.Core.List.{List}
use Prim.Native.Nat.{ℕ, ◌+◌, ◌*◌, ◌≤◌, ◌<◌, zero-le}
use native.Mathlib.Nat.{lt_of_le_of_lt}
use native.Mathlib.Omega.{arith}
use lib.Dec.{lit<}
use lib.IntN.{ℤ, pos}
use lib.ListN.{length, get_or, set, length-set}
use lib.Ieee.{Float, binary64, of_int}
use mir.Syntax.{w32}
use mir.Val.{to_z, of_z}
use Rattle.cover_weight.specs.Weight.{Coordinates, point_of}
use Rattle.cover_weight.specs.Edition.{along}
use Rattle.grid_floats.specs.Workings.Whole.{Whole}
use Rattle.grid_floats.proofs.Laws.Casts.{whole_of_word}
use Rattle.cover_column.proofs.Laws.Columns.{cells_more}
use Rattle.cover_table.specs.Workings.Table.{Points}
use Rattle.cover_table.specs.Workings.Loops.{GatherRoom}

-- a number of the grid as a float
abbrev pub grid_float : List ℤ → ℕ → Float
grid_float grid v = of_int binary64 (to_z w32 (of_z w32 (get_or grid v (pos 0))))

whole_coordinate : (grid : List ℤ) → Coordinates grid → (v : ℕ) → Whole (grid_float grid v) (get_or grid v (pos 0))
whole_coordinate grid h v = whole_of_word (get_or grid v (pos 0)) (lt_of_le_of_lt (h v) (lit< tt))

module _ (grid : List ℤ) (ring : List ℕ) where
  -- the coordinates of position j, by their places on the grid
  along_x : (j v : ℕ) → v ≡ 3 * get_or ring j 0 → get_or grid v (pos 0) ≡ (along grid ring j).x
  unfolding point_of
  along_x j v e = ap (λ (x : ℕ). get_or grid x (pos 0)) e

  along_y : (j v : ℕ) → v ≡ 3 * get_or ring j 0 → get_or grid (v + 1) (pos 0) ≡ (along grid ring j).y
  unfolding point_of
  along_y j v e = ap (λ (x : ℕ). get_or grid (x + 1) (pos 0)) e

  along_z : (j v : ℕ) → v ≡ 3 * get_or ring j 0 → get_or grid (v + 2) (pos 0) ≡ (along grid ring j).z
  unfolding point_of
  along_z j v e = ap (λ (x : ℕ). get_or grid (x + 2) (pos 0)) e

-- the points of the positions below i are read
pub record Gathering (grid : List ℤ) (ring : List ℕ) (px₀ py₀ pz₀ : List Float) (i : ℕ) (px py pz : List Float) : Type 0 where
  pub points : Points (along grid ring) i px py pz
  pub most : i ≤ length ring
  pub px_kept : length px ≡ length px₀
  pub py_kept : length py ≡ length py₀
  pub pz_kept : length pz ≡ length pz₀

module _ {grid : List ℤ} {ring : List ℕ} {px₀ py₀ pz₀ : List Float} (r : GatherRoom grid ring px₀ py₀ pz₀) where
  pub gathering_begins : Gathering grid ring px₀ py₀ pz₀ 0 px₀ py₀ pz₀
  gathering_begins = record {
    points = record {
      x = λ j h. absurd (omega arith);
      y = λ j h. absurd (omega arith);
      z = λ j h. absurd (omega arith);
      px_long = zero-le;
      py_long = zero-le;
      pz_long = zero-le;
    };
    most = omega arith;
    px_kept = refl;
    py_kept = refl;
    pz_kept = refl;
  }

  module _ {j : ℕ} {px py pz : List Float} (g : Gathering grid ring px₀ py₀ pz₀ j px py pz) (h : j < length ring) where
    pub in_column : (j < length px) × (j < length py) × (j < length pz)
    in_column =
        (omega (arith, r.px_long, g.px_kept), omega (arith, r.py_long, g.py_kept), omega (arith, r.pz_long, g.pz_kept))

    pub gathering_more : {v : ℕ} → v ≡ 3 * get_or ring j 0 → Gathering grid ring px₀ py₀ pz₀ (j + 1)
        (set px j (grid_float grid v)) (set py j (grid_float grid (v + 1))) (set pz j (grid_float grid (v + 2)))
    gathering_more {v} e = record {
      points = record {
        x = cells_more (λ i f. Whole f (along grid ring i).x) px j _ in_column.0 g.points.x (subst (Whole _) (along_x grid ring j v e) (whole_coordinate grid r.on.coordinates v));
        y = cells_more (λ i f. Whole f (along grid ring i).y) py j _ in_column.1 g.points.y (subst (Whole _) (along_y grid ring j v e) (whole_coordinate grid r.on.coordinates (v + 1)));
        z = cells_more (λ i f. Whole f (along grid ring i).z) pz j _ in_column.2 g.points.z (subst (Whole _) (along_z grid ring j v e) (whole_coordinate grid r.on.coordinates (v + 2)));
        px_long = subst (λ (n : ℕ). j + 1 ≤ n) (sym (length-set px j _)) (omega (arith, in_column));
        py_long = subst (λ (n : ℕ). j + 1 ≤ n) (sym (length-set py j _)) (omega (arith, in_column));
        pz_long = subst (λ (n : ℕ). j + 1 ≤ n) (sym (length-set pz j _)) (omega (arith, in_column));
      };
      most = omega arith;
      px_kept = length-set px j _ ∙ g.px_kept;
      py_kept = length-set py j _ ∙ g.py_kept;
      pz_kept = length-set pz j _ ∙ g.pz_kept;
    }

  pub gathered : {j : ℕ} {px py pz : List Float} → Gathering grid ring px₀ py₀ pz₀ j px py pz → length ring ≤ j → Points (along grid ring) (length ring) px py pz
  gathered {j} {px} {py} {pz} g h = let m : j ≤ length ring = g.most in subst (λ (n : ℕ). Points (along grid ring) n px py pz) (omega arith) g.points
