-- The corners of a list of triangles: three each, and those of two lists one after the other.
use mathlib.Core.Path.{◌≡◌, refl, ap, ◌∙◌}
use mathlib.Core.List.{List, [], ◌∷◌, ◌++◌}
use Prim.Native.Nat.{ℕ, ◌-◌, ◌*◌, ◌%◌}
use native.Mathlib.Omega.{arith}
use lib.ListN.{length}
use Rattle.cover_rules.specs.Covers.{Cover, Covers, Triangle, triangles, corners_of, patch_of, vertex_of}
use Rattle.cover_rules.proofs.Laws.Counted.{triangles_length, loop_triangles}

module _ (vertex : ℕ → ℕ) where
  pub corners_append : (s t : List Triangle) → corners_of vertex (s ++ t) ≡ corners_of vertex s ++ corners_of vertex t
  corners_append [] t = refl
  corners_append (x ∷ s) t = ap (λ (l : List ℕ). vertex x.first ∷ vertex x.second ∷ vertex x.third ∷ l) (corners_append s t)

  pub corners_length : (s : List Triangle) → length (corners_of vertex s) ≡ 3 * length s
  corners_length [] = refl
  corners_length (x ∷ s) = omega (arith, corners_length s)

  pub corners_whole : (s : List Triangle) → length (corners_of vertex s) % 3 ≡ 0
  corners_whole s = omega (arith, corners_length s)

  pub cover_corners : (i k : ℕ) (c : Cover) → Covers i k c → length (corners_of vertex (triangles i k c)) ≡ 3 * (k - i - 1)
  cover_corners i k c h = corners_length (triangles i k c) ∙ ap (λ (x : ℕ). 3 * x) (triangles_length i k c h)

pub patch_length : (ring : List ℕ) (c : Cover) → Covers 0 (length ring - 1) c → length (patch_of ring c) ≡ 3 * (length ring - 2)
patch_length ring c h = corners_length (vertex_of ring) (triangles 0 (length ring - 1) c) ∙ ap (λ (x : ℕ). 3 * x) (loop_triangles (length ring) c h)
