-- How a patch lies in its loop: its directed edges occur once, and each is a side of the loop turned round, or a diagonal that runs both
-- ways in the patch and neither way in the input and in what was laid before.
use Prim.Native.Nat.{ℕ, ◌<◌, ◌≤◌, ◌%◌, ◌-◌, ◌*◌}
use mathlib.Core.Path.{◌≡◌, sym, ap, ap₂, ◌∙◌}
use mathlib.Core.Bool.{false}
use mathlib.Core.Logic.{◌⊎◌, inl, inr}
use mathlib.Core.List.{List, []}
use native.Mathlib.Omega.{arith}
use lib.ListN.{length}
use Rattle.surface_rules.specs.Threes.{threes}
use Rattle.cover_rules.specs.Covers.{Cover, Allowed, vertex_of}
use Rattle.cover_rules.specs.Sets.{Covered}
use Rattle.cover_rules.proofs.Laws.Counted.{InnerUse}
use Rattle.cover_rules.proofs.Laws.Closed.{Different}
use Rattle.cover_bars.specs.Bars.{between, barred}
use Rattle.fill_edges.specs.Filling.{FillsRing, nothing, cover}
use Rattle.fill_edges.proofs.Laws.Times.{times, times_none, apart_times}
use Rattle.fill_edges.proofs.Laws.Diagonals.{inner_free}
use Rattle.fill_edges.proofs.Laws.Patches.{Turn, Edge, side, along, against, covered_edge, covered_side, covered_along, covered_against, covered_once}

-- u to v is a diagonal of the patch p: it runs back in p, and is joined neither in the input nor in what was laid before
pub record Inner (input laid p : List ℕ) (u v : ℕ) : Type 0 where
  pub goes_back : times p v u ≡ 1
  pub not_input : times input u v ≡ 0
  pub not_turned : times input v u ≡ 0
  pub not_laid : times laid u v ≡ 0

-- the patch p lies in a loop whose sides are these when turned round
pub record Lies (input laid : List ℕ) (Side : ℕ → ℕ → Type 0) (p : List ℕ) : Type 0 where
  pub whole : length p % 3 ≡ 0
  pub once : (u v : ℕ) → times p u v ≤ 1
  pub kind : (u v : ℕ) → 0 < times p u v → Side u v ⊎ Inner input laid p u v
  pub closes : (p ≡ []) ⊎ ((u v : ℕ) → Side u v → times p u v ≡ 1)

-- nothing lies in any loop
pub nothing_lies : (input laid : List ℕ) (Side : ℕ → ℕ → Type 0) (p : List ℕ) → p ≡ [] → Lies input laid Side p
nothing_lies input laid Side p e =
    record {
      whole = ap (λ (l : List ℕ). length l % 3) e;
      once = λ u v. omega (arith, none u v);
      kind = λ u v l. absurd (omega (arith, none u v));
      closes = inl e;
    }
  where
    none : (u v : ℕ) → times p u v ≡ 0
    none u v = ap (λ (l : List ℕ). times l u v) e ∙ times_none u v

module _ (input laid ring p : List ℕ) (input_whole : length input % 3 ≡ 0) (laid_whole : length laid % 3 ≡ 0)
    (different : Different (length ring) (vertex_of ring)) (three : 2 < length ring) where
  module _ (c : Cover) (many : length p ≡ 3 * (length ring - 2)) (covered : Covered (length ring) (vertex_of ring) (threes p) c)
      (allowed : Allowed (barred input laid ring) 0 (length ring - 1) c) where
    free : (a b : ℕ) → InnerUse 0 (length ring - 1) c a b → (u v : ℕ) → vertex_of ring a ≡ u → vertex_of ring b ≡ v
        → (between input u v ≡ false) × (between laid u v ≡ false)
    free a b i u v e f =
        let r = inner_free input laid ring c allowed a b i in
        (sym (ap₂ (between input) e f) ∙ r.0, sym (ap₂ (between laid) e f) ∙ r.1)

    told : (u v : ℕ) → Edge (length ring) (vertex_of ring) c u v → Turn (length ring) (vertex_of ring) u v ⊎ Inner input laid p u v
    unfolding times
    told u v (side t) = inl t
    told u v (along a b i e f) =
        let r = free a b i u v e f in
        let s = apart_times input input_whole u v r.0 in
        let t = apart_times laid laid_whole u v r.1 in
        inr (record {
          goes_back = covered_against (length ring) (vertex_of ring) different three (threes p) c covered a b v u i f e;
          not_input = s.0;
          not_turned = s.1;
          not_laid = t.0;
        })
    told u v (against a b i e f) =
        let r = free a b i v u f e in
        let s = apart_times input input_whole v u r.0 in
        let t = apart_times laid laid_whole v u r.1 in
        inr (record {
          goes_back = covered_along (length ring) (vertex_of ring) different three (threes p) c covered a b v u i f e;
          not_input = s.1;
          not_turned = s.0;
          not_laid = t.1;
        })

    cover_lies : Lies input laid (Turn (length ring) (vertex_of ring)) p
    unfolding times
    cover_lies =
        record {
          whole = omega arith;
          once = covered_once (length ring) (vertex_of ring) different three (threes p) c covered;
          kind = λ u v l. told u v (covered_edge (length ring) (vertex_of ring) different three (threes p) c covered u v l);
          closes = inr (covered_side (length ring) (vertex_of ring) different three (threes p) c covered);
        }

  -- what fills a loop lies in it
  pub fills_lies : FillsRing input laid ring p → Lies input laid (Turn (length ring) (vertex_of ring)) p
  fills_lies (nothing e) = nothing_lies input laid (Turn (length ring) (vertex_of ring)) p e
  fills_lies (cover c many covered allowed) = cover_lies c many covered allowed
