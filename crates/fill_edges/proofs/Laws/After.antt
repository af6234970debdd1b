-- The half-edges of two lists of triangles, one after the other, are those of the first and those of the second, since no triangle lies
-- across the seam.
use Prim.Native.Nat.{ℕ, ◌<◌, ◌≤◌, ◌%◌, ◌+◌, ◌-◌}
use mathlib.Core.Path.{◌≡◌, sym, ap, ◌∙◌}
use mathlib.Core.List.{List, ◌++◌}
use native.Mathlib.Omega.{arith}
use lib.ListN.{length, get_or, length-append, get_or-append}
use lib.Seq.{get_or-append-add}
use Rattle.surface_rules.specs.Edges.{following, start_of, end_of}
use Rattle.surface_rules.proofs.Laws.Edges.{following_below, following_on}
use Rattle.fill_edges.proofs.Laws.Times.{Half}

module _ (l m : List ℕ) (whole : length l % 3 ≡ 0) where
  pub start_left : (h : ℕ) → h < length l → start_of (l ++ m) h ≡ start_of l h
  start_left h k = get_or-append l m 0 h k

  pub end_left : (h : ℕ) → h < length l → end_of (l ++ m) h ≡ end_of l h
  end_left h k = get_or-append l m 0 (following h) (following_below (length l) h whole k)

  start_right : (h : ℕ) → start_of (l ++ m) (length l + h) ≡ start_of m h
  start_right h = get_or-append-add l m h 0

  end_right : (h : ℕ) → end_of (l ++ m) (length l + h) ≡ end_of m h
  end_right h = ap (λ (z : ℕ). get_or (l ++ m) z 0) (following_on (length l) h whole) ∙ get_or-append-add l m (following h) 0

  -- a half-edge past the first list is one of the second
  pub half_right : (h : ℕ) → length l ≤ h → h < length (l ++ m) → Half m (start_of (l ++ m) h) (end_of (l ++ m) h) (h - length l)
  half_right h k q =
      let e : length l + (h - length l) ≡ h = omega arith in
      let n : length (l ++ m) ≡ length l + length m = length-append l m in
      record {
        in_list = omega arith;
        starts = sym (start_right (h - length l)) ∙ ap (start_of (l ++ m)) e;
        ends = sym (end_right (h - length l)) ∙ ap (end_of (l ++ m)) e;
      }
