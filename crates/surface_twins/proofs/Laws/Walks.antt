-- The walk along the chain of u and v passes every half-edge of their bucket, the last first, so that what it passed joins them neither way.
use mathlib.Core.Path.{◌≡◌, refl, sym, ap, ◌∙◌, subst}
use mathlib.Core.List.{List}
use mathlib.Core.Logic.{⊎_elim}
use Prim.Native.Nat.{ℕ, ◌-◌, ◌<◌, ◌≤◌}
use native.Mathlib.Omega.{arith}
use native.Mathlib.Nat.{eq-or-lt_of_le}
use lib.ListN.{get_or}
use Rattle.surface_rules.specs.Edges.{end_of}
use Rattle.surface_rules.proofs.Laws.Tests.{lt_or_le}
use Rattle.surface_rules.proofs.Laws.Edges.{goes_from}
use Rattle.surface_twins.specs.declared.Met.TheVariants.{Twin, Like, Nothing}
use Rattle.surface_twins.specs.Workings.Chains.{bucket_of, home, in_bucket, top, Linked, Ended, MeetRoom, Meets}
use Rattle.surface_twins.proofs.Laws.Tops.{top_le}
use Rattle.surface_twins.proofs.Laws.Buckets.{Apart, apart_from, head_home, head_rest}

-- the walk is at g, numbered from 1
pub record Walking (corners links ends : List ℕ) (last u v g : ℕ) : Type 0 where
  pub room : MeetRoom corners links ends last u v
  pub within : g ≤ last
  pub here : 0 < g → home room.size corners (g - 1) ≡ bucket_of room.size u v
  pub passed : (k : ℕ) → g ≤ k → k < last → Apart corners u v k

module _ {corners links ends : List ℕ} {last u v : ℕ} where
  pub walk_begins : MeetRoom corners links ends last u v → Walking corners links ends last u v last
  walk_begins room = record { room = room; within = omega arith; here = room.here; passed = λ k l m. absurd (omega arith) }

  module _ {g : ℕ} (w : Walking corners links ends last u v g) where
    abbrev room : MeetRoom corners links ends last u v
    room = w.room

    abbrev size : ℕ
    size = room.size

    pub walk_ends : g ≤ 0 → Meets corners u v last Nothing
    unfolding Meets
    walk_ends l k m = w.passed k (omega arith) m

    module _ (more : 0 < g) where
      end_is : get_or ends (g - 1) 0 ≡ end_of corners (g - 1)
      unfolding Ended
      end_is = let b : g ≤ last = w.within in room.ended (g - 1) (omega arith)

      link_is : get_or links (g - 1) 0 ≡ top (in_bucket size corners (bucket_of size u v)) (g - 1)
      unfolding Linked
      link_is = let b : g ≤ last = w.within in room.linked (g - 1) (omega arith) ∙ ap (λ (z : ℕ). top (in_bucket size corners z) (g - 1)) (w.here more)

      pub walk_twin : get_or corners (g - 1) 0 ≡ v → get_or ends (g - 1) 0 ≡ u → Meets corners u v last (Twin (g - 1))
      unfolding Meets
      walk_twin p q = let b : g ≤ last = w.within in (omega arith, goes_from corners v u (g - 1) (record { starts = p; ends = sym end_is ∙ q }))

      pub walk_like : get_or corners (g - 1) 0 ≡ u → get_or ends (g - 1) 0 ≡ v → Meets corners u v last Like
      unfolding Meets
      walk_like p q = let b : g ≤ last = w.within in (g - 1, omega arith, goes_from corners u v (g - 1) (record { starts = p; ends = sym end_is ∙ q }))

      pub walk_less : get_or links (g - 1) 0 < g
      walk_less = let m : top (in_bucket size corners (bucket_of size u v)) (g - 1) ≤ g - 1 = top_le (in_bucket size corners (bucket_of size u v)) (g - 1) in let e = link_is in omega arith

      pub walk_more : (get_or corners (g - 1) 0 ≡ v → get_or ends (g - 1) 0 ≡ u → ⊥) → (get_or corners (g - 1) 0 ≡ u → get_or ends (g - 1) 0 ≡ v → ⊥)
          → Walking corners links ends last u v (get_or links (g - 1) 0)
      walk_more a c =
          let b : g ≤ last = w.within in
          let l : get_or links (g - 1) 0 < g = walk_less in
          record {
            room = room;
            within = omega arith;
            here = head_home size corners (bucket_of size u v) (g - 1) (get_or links (g - 1) 0) link_is;
            passed =
                λ k m n.
                ⊎_elim
                (λ (q : k < g).
                ⊎_elim
                (λ (r : k ≡ g - 1). subst (λ (z : ℕ). Apart corners u v z) (sym r) (apart_from corners u v (g - 1) (λ s. c s.starts (end_is ∙ s.ends)) (λ s. a s.starts (end_is ∙ s.ends))))
                (λ (r : k < g - 1). head_rest size corners (bucket_of size u v) (g - 1) (get_or links (g - 1) 0) link_is u v refl k m r)
                (eq-or-lt_of_le (omega arith)))
                (λ (q : g ≤ k). w.passed k q n)
                (lt_or_le k g);
          }
