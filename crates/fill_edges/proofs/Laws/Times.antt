-- How often a directed edge occurs among the triangles of a list of corners. The edges of the triangles are the half-edges, place by place,
-- so a half-edge is counted, and what is counted is a half-edge.
use Prim.Native.Nat.{ℕ, zero, suc, ◌<◌, ◌≤◌, ◌+◌, ◌%◌}
use mathlib.Core.Path.{◌≡◌, refl, sym, ap, ◌∙◌}
use mathlib.Core.Bool.{true, false, true≢false}
use mathlib.Core.Logic.{⊎_elim}
use mathlib.Core.List.{List, [], ◌∷◌, ◌++◌}
use native.Mathlib.Nat.{not-suc-le-zero}
use native.Mathlib.Omega.{arith}
use native.Mathlib.Decide.{dec_lt}
use lib.ListN.{length, get_or}
use Rattle.surface_rules.specs.Edges.{following, start_of, end_of, is_open}
use Rattle.surface_rules.specs.Threes.{threes}
use Rattle.surface_rules.proofs.Laws.Tests.{not_so, either_false}
use Rattle.surface_rules.proofs.Laws.Smallest.{any_index, index_any}
use Rattle.surface_rules.proofs.Laws.Edges.{goes_says, goes_from, twin_says, not_open, opposed}
use Rattle.cover_rules.specs.Covers.{Triangle, on}
use Rattle.cover_rules.proofs.Laws.Pairs.{Pair, pair, count, count_append}
use Rattle.cover_rules.proofs.Laws.Wound.{edges, edges_append}
use Rattle.cover_bars.specs.Bars.{edge, between}
use Rattle.cover_bars.proofs.Laws.Tests.{either_true, surely}
use Rattle.fill_edges.proofs.Laws.Places.{pair_at, Here, here_counted, counted_here, counted_once, once_counted}

-- how often the edge u to v occurs
unfoldable pub times : List ℕ → ℕ → ℕ → ℕ
times l u v = count u v (edges (threes l))

-- ---- one list after another

triples_append : (l m : List ℕ) → length l % 3 ≡ 0 → threes (l ++ m) ≡ threes l ++ threes m
triples_append [] m w = refl
triples_append (a ∷ []) m w = absurd (omega arith)
triples_append (a ∷ (b ∷ [])) m w = absurd (omega arith)
triples_append (a ∷ (b ∷ (c ∷ l))) m w = ap (λ (ts : List Triangle). on a b c ∷ ts) (triples_append l m (omega arith))

pub times_append : (l m : List ℕ) → length l % 3 ≡ 0 → (u v : ℕ) → times (l ++ m) u v ≡ times l u v + times m u v
unfolding times
times_append l m w u v =
    ap (λ (ts : List Triangle). count u v (edges ts)) (triples_append l m w)
    ∙ ap (count u v) (edges_append (threes l) (threes m))
    ∙ count_append u v (edges (threes l)) (edges (threes m))

pub times_none : (u v : ℕ) → times [] u v ≡ 0
unfolding times count
times_none u v = refl

-- ---- half-edges

edges_many : (l : List ℕ) → length l % 3 ≡ 0 → length (edges (threes l)) ≡ length l
edges_many [] w = refl
edges_many (a ∷ []) w = absurd (omega arith)
edges_many (a ∷ (b ∷ [])) w = absurd (omega arith)
edges_many (a ∷ (b ∷ (c ∷ l))) w = omega (arith, edges_many l (omega arith))

edge_at : (l : List ℕ) → length l % 3 ≡ 0 → (h : ℕ) → h < length l → pair_at (edges (threes l)) h ≡ pair (start_of l h) (end_of l h)
unfolding following
edge_at [] w h s = absurd (not-suc-le-zero s)
edge_at (a ∷ []) w h s = absurd (omega arith)
edge_at (a ∷ (b ∷ [])) w h s = absurd (omega arith)
edge_at (a ∷ (b ∷ (c ∷ l))) w zero s = refl
edge_at (a ∷ (b ∷ (c ∷ l))) w (suc zero) s = refl
edge_at (a ∷ (b ∷ (c ∷ l))) w (suc (suc zero)) s = refl
edge_at (a ∷ (b ∷ (c ∷ l))) w (suc (suc (suc h))) s =
    let e : suc (suc (suc (following h))) ≡ following (suc (suc (suc h))) = omega arith in
    edge_at l (omega arith) h (omega arith)
    ∙ ap (λ (k : ℕ). pair (start_of l h) (get_or (a ∷ (b ∷ (c ∷ l))) k 0)) e

-- h is a half-edge of l from u to v
pub record Half (l : List ℕ) (u v h : ℕ) : Type 0 where
  pub in_list : h < length l
  pub starts : start_of l h ≡ u
  pub ends : end_of l h ≡ v

pub half : (l : List ℕ) (h : ℕ) → h < length l → Half l (start_of l h) (end_of l h) h
half l h s = record { in_list = s; starts = refl; ends = refl }

module _ (l : List ℕ) (whole : length l % 3 ≡ 0) (u v : ℕ) where
  half_here : (h : ℕ) → Half l u v h → Here u v (edges (threes l)) h
  half_here h k =
      let e = edge_at l whole h k.in_list in
      let s : h < length l = k.in_list in
      record {
        below = omega (arith, edges_many l whole);
        from_here = ap (λ (p : Pair). p.from) e ∙ k.starts;
        to_here = ap (λ (p : Pair). p.to) e ∙ k.ends;
      }

  here_half : (h : ℕ) → Here u v (edges (threes l)) h → Half l u v h
  here_half h k =
      let n = edges_many l whole in
      let b : h < length (edges (threes l)) = k.below in
      let s : h < length l = omega arith in
      let e = edge_at l whole h s in
      record {
        in_list = s;
        starts = sym (ap (λ (p : Pair). p.from) e) ∙ k.from_here;
        ends = sym (ap (λ (p : Pair). p.to) e) ∙ k.to_here;
      }

  pub half_times : (h : ℕ) → Half l u v h → 0 < times l u v
  unfolding times
  half_times h k = here_counted u v (edges (threes l)) h (half_here h k)

  pub times_half : 0 < times l u v → (h : ℕ) × Half l u v h
  unfolding times
  times_half s = let y = counted_here u v (edges (threes l)) s in (y.0, here_half y.0 y.1)

  -- an edge that occurs once is one half-edge
  pub times_single : times l u v ≤ 1 → (g h : ℕ) → Half l u v g → Half l u v h → g ≡ h
  unfolding times
  times_single s g h j k = counted_once u v (edges (threes l)) s g h (half_here g j) (half_here h k)

  pub single_times : ((g h : ℕ) → Half l u v g → Half l u v h → g ≡ h) → times l u v ≤ 1
  unfolding times
  single_times f = once_counted u v (edges (threes l)) (λ g h j k. f g h (here_half g j) (here_half h k))

  -- ---- what the tests say

  pub edge_times : edge l u v ≡ true → 0 < times l u v
  unfolding edge
  edge_times e =
      let s = any_index _ (length l) e in
      let r = goes_says l u v s.0 s.3 in
      half_times s.0 (record { in_list = s.2; starts = r.starts; ends = r.ends })

  pub times_edge : 0 < times l u v → edge l u v ≡ true
  unfolding edge
  times_edge s =
      let y = times_half s in
      index_any _ (length l) y.0 y.1.in_list (goes_from l u v y.0 (record { starts = y.1.starts; ends = y.1.ends }))

  pub no_edge_times : edge l u v ≡ false → times l u v ≡ 0
  no_edge_times e = go (dec_lt 0 (times l u v))
    where
      go : Dec (0 < times l u v) → times l u v ≡ 0
      go (yes s) = absurd (true≢false (sym (times_edge s) ∙ e))
      go (no s) = omega arith

module _ (l : List ℕ) (whole : length l % 3 ≡ 0) where
  pub apart_times : (u v : ℕ) → between l u v ≡ false → (times l u v ≡ 0) × (times l v u ≡ 0)
  unfolding between
  apart_times u v e =
      let f = either_false (edge l u v) (edge l v u) e in
      (no_edge_times l whole u v f.0, no_edge_times l whole v u f.1)

  pub times_apart : (u v : ℕ) → times l u v ≡ 0 → times l v u ≡ 0 → between l u v ≡ false
  unfolding between
  times_apart u v a b =
      not_so (between l u v)
      (λ e. ⊎_elim (λ x. omega (arith, edge_times l whole u v x)) (λ x. omega (arith, edge_times l whole v u x)) (either_true (edge l u v) (edge l v u) e))

  -- an open edge is one whose turn does not occur
  pub open_times : (h : ℕ) → is_open l h ≡ true → times l (end_of l h) (start_of l h) ≡ 0
  open_times h o = go (dec_lt 0 (times l (end_of l h) (start_of l h)))
    where
      go : Dec (0 < times l (end_of l h) (start_of l h)) → times l (end_of l h) (start_of l h) ≡ 0
      go (yes s) =
          let y = times_half l whole (end_of l h) (start_of l h) s in
          absurd (opposed l h y.0 y.1.in_list (record { starts = y.1.starts; ends = y.1.ends }) o)
      go (no s) = omega arith

  pub times_open : (h : ℕ) → times l (end_of l h) (start_of l h) ≡ 0 → is_open l h ≡ true
  times_open h z =
      surely (is_open l h)
      (λ e.
      let t = not_open l h e in
      let s = twin_says l h t.0 t.1 in
      omega (arith, half_times l whole (end_of l h) (start_of l h) t.0 (record { in_list = s.0; starts = s.1.starts; ends = s.1.ends })))
