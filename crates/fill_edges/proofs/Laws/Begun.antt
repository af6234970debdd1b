-- A set of triangles has the directed edges of those that it lists, each as often: neither the order of the triangles nor the corner that
-- each begins at changes them.
use Prim.Native.Nat.{ℕ, ◌+◌}
use mathlib.Core.Path.{◌≡◌, ap, ◌∙◌}
use mathlib.Core.Logic.{inl, inr}
use mathlib.Core.List.{List, [], ◌∷◌, ◌++◌}
use native.Mathlib.Omega.{arith}
use Rattle.cover_rules.specs.Covers.{Triangle}
use Rattle.cover_rules.specs.Sets.{turned, Alike, ListsTriangles}
use Rattle.cover_rules.proofs.Laws.Pairs.{hit, count, count_append}
use Rattle.cover_rules.proofs.Laws.Wound.{edges, edges_append}

module _ (u v : ℕ) where
  -- how often the edge u to v occurs in one triangle
  unfoldable of_one : Triangle → ℕ
  of_one t = hit u v t.first t.second + (hit u v t.second t.third + hit u v t.third t.first)

  one_turned : (t : Triangle) → of_one (turned t) ≡ of_one t
  unfolding of_one
  one_turned t = omega arith

  one_alike : (s t : Triangle) → Alike s t → of_one s ≡ of_one t
  one_alike s t (inl e) = ap of_one e
  one_alike s t (inr (inl e)) = ap of_one e ∙ one_turned t
  one_alike s t (inr (inr e)) = ap of_one e ∙ one_turned (turned t) ∙ one_turned t

  count_first : (t : Triangle) (ts : List Triangle) → count u v (edges (t ∷ ts)) ≡ of_one t + count u v (edges ts)
  unfolding count of_one
  count_first t ts = omega arith

  count_joined : (a b : List Triangle) → count u v (edges (a ++ b)) ≡ count u v (edges a) + count u v (edges b)
  count_joined a b = ap (count u v) (edges_append a b) ∙ count_append u v (edges a) (edges b)

  pub listed_count : (ts s : List Triangle) → ListsTriangles s ts → count u v (edges s) ≡ count u v (edges ts)
  listed_count [] s h = ap (λ (l : List Triangle). count u v (edges l)) h
  listed_count (t ∷ ts) s h =
      omega (
        arith,
        ap (λ (l : List Triangle). count u v (edges l)) h.3,
        count_joined h.0 (h.2 ∷ h.1),
        count_first h.2 h.1,
        one_alike h.2 t h.4,
        count_joined h.0 h.1,
        listed_count ts (h.0 ++ h.1) h.5,
        count_first t ts,
      )
