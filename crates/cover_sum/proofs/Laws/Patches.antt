-- A patch as it is laid, corner behind corner, weighs what its cover does; and its corners name points, since they are the ring's vertices.
use Prim.Native.Nat.{ℕ, zero, suc, ◌+◌, ◌-◌, ◌*◌, ◌<◌, ◌≤◌}
use mathlib.Core.Path.{◌≡◌, refl, ap, ◌∙◌}
use mathlib.Core.Logic.{inl, inr}
use mathlib.Core.List.{List, [], ◌∷◌, map}
use native.Mathlib.Omega.{arith}
use lib.IntN.{ℤ}
use lib.ListN.{length, get_or}
use Rattle.base_limits.specs.Limits as limits
use Rattle.surface_rules.specs.Threes.{threes}
use Rattle.cover_rules.specs.Covers.{Cover, Covers, Triangle, triangles, corners_of, weight, vertex_of, patch_of}
use Rattle.cover_rules.specs.Sets.{named}
use Rattle.cover_rules.specs.Workings.Matching.{In}
use Rattle.cover_rules.proofs.Laws.Closed.{cover_seated}
use Rattle.cover_rules.proofs.Laws.Corners.{patch_length}
use Rattle.cover_weight.specs.Weight.{Coordinates, Names}
use Rattle.cover_weight.specs.Edition.{naturals, tri_of, along}
use Rattle.cover_sum.specs.Workings.Weighing.{named_weight, set_weight, WeighRoom}
use Rattle.cover_sum.proofs.Laws.Weighing.{triangles_weight}

module _ (grid : List ℤ) (vertex : ℕ → ℕ) where
  corners_weight : (ts : List Triangle) → set_weight grid (threes (corners_of vertex ts)) ≡ set_weight grid (map (named vertex) ts)
  unfolding set_weight
  corners_weight [] = refl
  corners_weight (t ∷ ts) = ap (λ (n : ℕ). named_weight grid (named vertex t) + n) (corners_weight ts)

-- what holds of each triangle's vertices holds of every corner
corners_each : (P : ℕ → Type 0) (vertex : ℕ → ℕ) (ts : List Triangle)
    → ((t : Triangle) → In t ts → P (vertex t.first) × P (vertex t.second) × P (vertex t.third))
    → (j : ℕ) → j < length (corners_of vertex ts) → P (get_or (corners_of vertex ts) j 0)
corners_each P vertex [] f j h = absurd (omega arith)
corners_each P vertex (t ∷ ts) f zero h = (f t (inl refl)).0
corners_each P vertex (t ∷ ts) f (suc zero) h = (f t (inl refl)).1
corners_each P vertex (t ∷ ts) f (suc (suc zero)) h = (f t (inl refl)).2
corners_each P vertex (t ∷ ts) f (suc (suc (suc j))) h = corners_each P vertex ts (λ u g. f u (inr g)) j (omega arith)

pub patch_weight : (grid : List ℤ) (ring : List ℕ) (c : Cover) → set_weight grid (threes (patch_of ring c)) ≡ weight naturals (tri_of (along grid ring)) 0 (length ring - 1) c
patch_weight grid ring c = corners_weight grid (vertex_of ring) (triangles 0 (length ring - 1) c) ∙ triangles_weight grid ring 0 (length ring - 1) c

pub patch_room : (grid : List ℤ) (ring : List ℕ) → Coordinates grid → ((j : ℕ) → j < length ring → Names grid (get_or ring j 0)) → length ring ≤ limits.longest
    → (c : Cover) → Covers 0 (length ring - 1) c → WeighRoom grid (patch_of ring c)
patch_room grid ring near names few c h =
    let n : length (patch_of ring c) ≡ 3 * (length ring - 2) = patch_length ring c h in
    record {
      coordinates = near;
      named =
          corners_each (Names grid) (vertex_of ring) (triangles 0 (length ring - 1) c)
          (λ t g.
          let s = cover_seated (length ring) c h t g in
          let l : t.first < t.third = s.low in
          let m : t.third < t.second = s.high in
          let k : t.second < length ring = s.to in (names t.first (omega arith), names t.second k, names t.third (omega arith)));
      whole = record { triangles = length ring - 2; threes = n };
      few = omega arith;
    }
