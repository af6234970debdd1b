-- The directed edges of triangles by their vertices are those by their positions, each as often, because no two positions of a loop have
-- one vertex.
use Prim.Native.Nat.{ℕ, ◌<◌}
use mathlib.Core.Path.{◌≡◌, refl, ap}
use mathlib.Core.Logic.{inl, inr}
use mathlib.Core.List.{List, [], ◌∷◌, map}
use native.Mathlib.Nat.{not-suc-le-zero}
use native.Mathlib.Omega.{arith}
use native.Mathlib.Decide.{dec_lt, ℕ_discrete}
use Rattle.cover_rules.specs.Covers.{Triangle}
use Rattle.cover_rules.specs.Sets.{named}
use Rattle.cover_rules.specs.Workings.Matching.{In}
use Rattle.cover_rules.proofs.Laws.Pairs.{hit, count, hit_same, hit_other, hit_of}
use Rattle.cover_rules.proofs.Laws.Wound.{edges}
use Rattle.cover_rules.proofs.Laws.Closed.{Below, Different}

-- u and v are the vertices at two positions of the loop
pub record Positions (n : ℕ) (vertex : ℕ → ℕ) (u v : ℕ) : Type 0 where
  pub a : ℕ
  pub b : ℕ
  pub a_below : a < n
  pub b_below : b < n
  pub a_is : vertex a ≡ u
  pub b_is : vertex b ≡ v

module _ (n : ℕ) (vertex : ℕ → ℕ) where
  -- what is counted joins two positions
  pub counted_positions : (u v : ℕ) (ts : List Triangle) → ((t : Triangle) → In t ts → Below n t) → 0 < count u v (edges (map (named vertex) ts)) → Positions n vertex u v
  unfolding count
  counted_positions u v [] f s = absurd (not-suc-le-zero s)
  counted_positions u v (t ∷ ts) f s =
      go (dec_lt 0 (hit u v (vertex t.first) (vertex t.second))) (dec_lt 0 (hit u v (vertex t.second) (vertex t.third)))
      (dec_lt 0 (hit u v (vertex t.third) (vertex t.first))) (counted_positions u v ts (λ x g. f x (inr g)))
    where
      below : Below n t
      below = f t (inl refl)

      at : (p q : ℕ) → p < n → q < n → 0 < hit u v (vertex p) (vertex q) → Positions n vertex u v
      at p q k l x = let e = hit_of u v (vertex p) (vertex q) x in record { a = p; b = q; a_below = k; b_below = l; a_is = e.0; b_is = e.1 }

      go : Dec (0 < hit u v (vertex t.first) (vertex t.second)) → Dec (0 < hit u v (vertex t.second) (vertex t.third))
          → Dec (0 < hit u v (vertex t.third) (vertex t.first)) → (0 < count u v (edges (map (named vertex) ts)) → Positions n vertex u v) → Positions n vertex u v
      go (yes x) y z r = at t.first t.second below.first_below below.second_below x
      go (no x) (yes y) z r = at t.second t.third below.second_below below.third_below y
      go (no x) (no y) (yes z) r = at t.third t.first below.third_below below.first_below z
      go (no x) (no y) (no z) r = r (omega arith)

  module _ (different : Different n vertex) (a b : ℕ) (la : a < n) (lb : b < n) where
    named_hit : (p q : ℕ) → p < n → q < n → hit (vertex a) (vertex b) (vertex p) (vertex q) ≡ hit a b p q
    named_hit p q lp lq = go (ℕ_discrete p a) (ℕ_discrete q b)
      where
        go : Dec (p ≡ a) → Dec (q ≡ b) → hit (vertex a) (vertex b) (vertex p) (vertex q) ≡ hit a b p q
        go (yes e) (yes f) = omega (arith, hit_same (vertex a) (vertex b) (vertex p) (vertex q) (ap vertex e) (ap vertex f), hit_same a b p q e f)
        go (no e) f = omega (arith, hit_other (vertex a) (vertex b) (vertex p) (vertex q) (λ x. e (different p a lp la x.0)), hit_other a b p q (λ x. e x.0))
        go (yes e) (no f) = omega (arith, hit_other (vertex a) (vertex b) (vertex p) (vertex q) (λ x. f (different q b lq lb x.1)), hit_other a b p q (λ x. f x.1))

    -- between two positions the edges are as many as those between their vertices
    pub named_count : (ts : List Triangle) → ((t : Triangle) → In t ts → Below n t) → count (vertex a) (vertex b) (edges (map (named vertex) ts)) ≡ count a b (edges ts)
    unfolding count
    named_count [] f = refl
    named_count (t ∷ ts) f =
        let below : Below n t = f t (inl refl) in
        omega (
          arith,
          named_hit t.first t.second below.first_below below.second_below,
          named_hit t.second t.third below.second_below below.third_below,
          named_hit t.third t.first below.third_below below.first_below,
          named_count ts (λ x g. f x (inr g)),
        )
