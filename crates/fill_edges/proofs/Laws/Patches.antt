-- The directed edges of a set of triangles that covers a ring: its sides turned round, each once, and the cover's diagonals, each once in
-- either direction. By positions that is how a cover is wound.
use Prim.Native.Nat.{ℕ, suc, ◌<◌, ◌≤◌, ◌-◌}
use mathlib.Core.Path.{◌≡◌, refl, sym, ap, ap₂, ◌∙◌}
use mathlib.Core.Logic.{inl}
use mathlib.Core.List.{List, map}
use native.Mathlib.Omega.{arith}
use native.Mathlib.Decide.{dec_lt}
use Rattle.cover_rules.specs.Covers.{Cover, Triangle, triangles}
use Rattle.cover_rules.specs.Sets.{named, Covered}
use Rattle.cover_rules.specs.Workings.Matching.{In}
use Rattle.cover_rules.proofs.Laws.Chords.{uses_in}
use Rattle.cover_rules.proofs.Laws.Pairs.{count}
use Rattle.cover_rules.proofs.Laws.Counted.{InnerUse}
use Rattle.cover_rules.proofs.Laws.Wound.{edges, wound, EdgeOf, side_turned, outermost, inner_along, inner_against, nothing_else, side_turned_once, outermost_once, inner_along_once, inner_against_once}
use Rattle.cover_rules.proofs.Laws.Closed.{Below, below, Different, cover_seated}
use Rattle.fill_edges.proofs.Laws.Begun.{listed_count}
use Rattle.fill_edges.proofs.Laws.Named.{Positions, counted_positions, named_count}

-- u to v is a side of the ring, turned round: each runs from a position to the one before, or from the first to the last
pub data Turn (n : ℕ) (vertex : ℕ → ℕ) (u v : ℕ) : Type 0 where
  back : (j : ℕ) → suc j < n → vertex (suc j) ≡ u → vertex j ≡ v → Turn n vertex u v
  round : vertex 0 ≡ u → vertex (n - 1) ≡ v → Turn n vertex u v

-- u to v is such a side, or a diagonal of the cover, one way or the other
pub data Edge (n : ℕ) (vertex : ℕ → ℕ) (c : Cover) (u v : ℕ) : Type 0 where
  side : Turn n vertex u v → Edge n vertex c u v
  along : (a b : ℕ) → InnerUse 0 (n - 1) c a b → vertex a ≡ u → vertex b ≡ v → Edge n vertex c u v
  against : (a b : ℕ) → InnerUse 0 (n - 1) c a b → vertex b ≡ u → vertex a ≡ v → Edge n vertex c u v

module _ (n : ℕ) (vertex : ℕ → ℕ) (different : Different n vertex) (three : 2 < n) (s : List Triangle) (c : Cover) (covered : Covered n vertex s c) where
  abbrev many : ℕ → ℕ → ℕ
  many u v = count u v (edges s)

  below_all : (t : Triangle) → In t (triangles 0 (n - 1) c) → Below n t
  below_all t g = below n t t (cover_seated n c covered.0 t g) (inl refl)

  -- between two positions the set has as many edges as the cover
  pub covered_wound : (a b : ℕ) → a < n → b < n → count (vertex a) (vertex b) (edges s) ≡ wound 0 (n - 1) c a b
  covered_wound a b la lb =
      listed_count (vertex a) (vertex b) (map (named vertex) (triangles 0 (n - 1) c)) s covered.1
      ∙ named_count n vertex different a b la lb (triangles 0 (n - 1) c) below_all

  positions : (u v : ℕ) → 0 < many u v → Positions n vertex u v
  positions u v l =
      counted_positions n vertex u v (triangles 0 (n - 1) c) below_all
      (omega (arith, listed_count u v (map (named vertex) (triangles 0 (n - 1) c)) s covered.1))

  named_many : (a b u v : ℕ) → vertex a ≡ u → vertex b ≡ v → count (vertex a) (vertex b) (edges s) ≡ many u v
  named_many a b u v e f = ap₂ (λ (x y : ℕ). count x y (edges s)) e f

  -- an edge of the set is an edge of the cover
  edge_of : (u v : ℕ) (p : Positions n vertex u v) → 0 < many u v → EdgeOf 0 (n - 1) c p.a p.b
  edge_of u v p l =
      nothing_else 0 (n - 1) c covered.0 p.a p.b
      (omega (arith, covered_wound p.a p.b p.a_below p.b_below, named_many p.a p.b u v p.a_is p.b_is))

  told : (u v : ℕ) (p : Positions n vertex u v) → EdgeOf 0 (n - 1) c p.a p.b → Edge n vertex c u v
  told u v p (side_turned e l r) = side (back p.b (omega arith) (sym (ap vertex e) ∙ p.a_is) p.b_is)
  told u v p (outermost e f) = side (round (sym (ap vertex e) ∙ p.a_is) (sym (ap vertex f) ∙ p.b_is))
  told u v p (inner_along i) = along p.a p.b i p.a_is p.b_is
  told u v p (inner_against i) = against p.b p.a i p.a_is p.b_is

  pub covered_edge : (u v : ℕ) → 0 < count u v (edges s) → Edge n vertex c u v
  covered_edge u v l = let p = positions u v l in told u v p (edge_of u v p l)

  -- each occurs once
  pub covered_side : (u v : ℕ) → Turn n vertex u v → count u v (edges s) ≡ 1
  covered_side u v (back j l e f) =
      sym (named_many (suc j) j u v e f) ∙ covered_wound (suc j) j l (omega arith) ∙ side_turned_once 0 (n - 1) c covered.0 (omega arith) j (omega arith) (omega arith)
  covered_side u v (round e f) =
      sym (named_many 0 (n - 1) u v e f) ∙ covered_wound 0 (n - 1) (omega arith) (omega arith) ∙ outermost_once 0 (n - 1) c covered.0 (omega arith)

  pub covered_along : (a b u v : ℕ) → InnerUse 0 (n - 1) c a b → vertex a ≡ u → vertex b ≡ v → count u v (edges s) ≡ 1
  covered_along a b u v i e f =
      let w = uses_in 0 (n - 1) c a b covered.0 i.0 in
      sym (named_many a b u v e f) ∙ covered_wound a b (omega arith) (omega arith) ∙ inner_along_once 0 (n - 1) c covered.0 a b i

  pub covered_against : (a b u v : ℕ) → InnerUse 0 (n - 1) c a b → vertex b ≡ u → vertex a ≡ v → count u v (edges s) ≡ 1
  covered_against a b u v i e f =
      let w = uses_in 0 (n - 1) c a b covered.0 i.0 in
      sym (named_many b a u v e f) ∙ covered_wound b a (omega arith) (omega arith) ∙ inner_against_once 0 (n - 1) c covered.0 a b i

  edge_once : (u v : ℕ) → Edge n vertex c u v → count u v (edges s) ≡ 1
  edge_once u v (side t) = covered_side u v t
  edge_once u v (along a b i e f) = covered_along a b u v i e f
  edge_once u v (against a b i e f) = covered_against a b u v i e f

  -- so no edge occurs twice
  pub covered_once : (u v : ℕ) → count u v (edges s) ≤ 1
  covered_once u v = go (dec_lt 0 (many u v))
    where
      go : Dec (0 < many u v) → many u v ≤ 1
      go (yes l) = omega (arith, edge_once u v (covered_edge u v l))
      go (no l) = omega arith
