-- One apex tried and one triangle laid as the code does it, with the rows' beginnings that it found.
use mathlib.Core.Path.{◌≡◌, refl, sym, ap, ◌∙◌}
use mathlib.Core.Bool.{true, false, true≢false}
use mathlib.Core.List.{List, [], ◌∷◌}
use Prim.Native.Nat.{ℕ, ◌+◌, ◌*◌, ◌≤◌, ◌<◌}
use native.Mathlib.Omega.{arith}
use lib.ListN.{length, set}
use lib.Ieee.{Float, binary64, add, lt, le}
use Rattle.base_limits.specs.Limits.{longest}
use Rattle.surface_rules.specs.Buffers.{laid}
use Rattle.surface_rules.proofs.Laws.Laid.{laid_none, laid_more}
use Rattle.grid_floats.specs.Workings.Whole.{size_of}
use Rattle.cover_column.specs.Workings.Columns.{cell, row}
use Rattle.cover_trace.specs.Workings.Ways.{gap_x, gap_y, gap_z, triangle_of, TriangleRoom, Weighable, IsWay}
use Rattle.cover_trace.proofs.Laws.Ways.{place_in, short, triangle_room, parts_heavy, way_is, way_is_not}

pub triangle_is : (quarter : ℕ) (table : List Float) (im ik mk : ℕ) (a b c : Float) → a ≡ size_of (gap_x table im ik mk) → b ≡ size_of (gap_y quarter table im ik mk) → c ≡ size_of (gap_z quarter table im ik mk)
    → add binary64 (add binary64 a b) c ≡ triangle_of quarter table im ik mk
unfolding triangle_of
triangle_is quarter table im ik mk a b c e f g = rw (e, f, g)

-- what the code asks of the places
pub record TryRoom (quarter : ℕ) (table : List Float) (i k m : ℕ) : Type 0 where
  pub m_short : m < longest
  pub k_short : k < longest
  pub im_in : row m + i < quarter
  pub ik_in : row k + i < quarter
  pub mk_in : row k + m < quarter
  pub four : 4 * quarter ≤ length table

-- what the two parts weigh that stand at these places
abbrev parts : ℕ → List Float → ℕ → ℕ → Float
parts quarter table im mk = add binary64 (cell table (3 * quarter + im)) (cell table (3 * quarter + mk))

module _ {quarter : ℕ} {table : List Float} {i k m : ℕ} where
  pub try_room : Weighable quarter table i k × (i < m) × (m < k) → TryRoom quarter table i k m
  try_room (q, lo, hi) =
      let s : k < longest = short q.weighed in
      let s' : m < longest = omega arith in
      record {
        m_short = s';
        k_short = s;
        im_in = place_in i m lo (omega (arith, q.weighed.high)) q.weighed.filled.long;
        ik_in = place_in i k q.weighed.low q.weighed.high q.weighed.filled.long;
        mk_in = place_in m k hi q.weighed.high q.weighed.filled.long;
        four = q.weighed.filled.long.four;
      }

  -- the rows' beginnings
  module _ {a b c : ℕ} (f : a ≡ row m) (g : b ≡ row k) (h : c ≡ row k) where
    pub try_triangle_room : Weighable quarter table i k × (i < m) × (m < k) → TriangleRoom quarter table (a + i) (b + i) (c + m)
    try_triangle_room (q, lo, hi) = rw (f, g, h) (triangle_room q.weighed lo hi)

    pub try_heavy : i < m → m < k → lt (cell table (3 * quarter + (b + i))) (parts quarter table (a + i) (c + m)) ≡ true → IsWay quarter table i k m false
    try_heavy lo hi e o barred n w p = ((λ t. absurd (true≢false (sym t))), λ t. parts_heavy p lo hi (rw (f, g, h) at e))

    pub try_all : {x : Float} → i < m → m < k → x ≡ triangle_of quarter table (a + i) (b + i) (c + m)
        → IsWay quarter table i k m (le (add binary64 (parts quarter table (a + i) (c + m)) x) (cell table (3 * quarter + (b + i))))
    try_all lo hi e o barred n w p = (way_is p lo hi (rw (f, g, h) at e) (rw (f, g, h)), way_is_not p lo hi (rw (f, g, h) at e) (rw (f, g, h)))

-- three corners written one after the other are laid at once
pub corners_laid : (out : List ℕ) (p a b c : ℕ) → p + 3 ≤ length out → set (set (set out p a) (p + 1) b) (p + 2) c ≡ laid p (a ∷ b ∷ c ∷ []) out
corners_laid out p a b c l =
    ap (λ (x : List ℕ). set (set (set x p a) (p + 1) b) (p + 2) c) (sym (laid_none p out))
    ∙ ap (λ (x : List ℕ). set (set x (p + 1) b) (p + 2) c) (laid_more p out 0 [] a p (omega arith) (omega arith))
    ∙ ap (λ (x : List ℕ). set x (p + 2) c) (laid_more p out 0 (a ∷ []) b (p + 1) refl (omega arith))
    ∙ laid_more p out 0 (a ∷ b ∷ []) c (p + 2) refl (omega arith)
