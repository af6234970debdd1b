-- The sides of a loop's ring are the edges of the loop, each of which ends where the next one starts; and on a sound surface these are open
-- half-edges, each of one loop.
use Prim.Native.Nat.{ℕ, suc, ◌<◌, ◌≤◌, ◌-◌}
use mathlib.Core.Path.{◌≡◌, refl, sym, ap, ap₂, ◌∙◌, subst}
use mathlib.Core.Logic.{⊎_elim}
use mathlib.Core.List.{List, [], map}
use native.Mathlib.Omega.{arith}
use lib.ListN.{length, get_or, length-map, get_or-map}
use Rattle.surface_rules.specs.Edges.{Sound, start_of, end_of}
use Rattle.surface_rules.proofs.Laws.Tests.{lt_or_le}
use Rattle.surface_rules.proofs.Laws.Lists.{map_at}
use Rattle.surface_rules.proofs.Laws.Edges.{one_edge}
use Rattle.loop_rules.specs.Loops.{loops, ring}
use Rattle.loop_rules.proofs.Laws.Distinct.{Distinct}
use Rattle.loop_rules.proofs.Laws.Linked.{Closed, closed_next}
use Rattle.loop_rules.proofs.Laws.Places.{Place}
use Rattle.loop_rules.proofs.Theorems.{one_loop, no_vertex_twice, three_or_more, loop_closes}
use Rattle.cover_rules.specs.Covers.{vertex_of}
use Rattle.fill_edges.proofs.Laws.Times.{times, half_times, open_times}
use Rattle.fill_edges.proofs.Laws.Patches.{Turn, back, round}
use Rattle.fill_edges.proofs.Laws.Filled.{Ring}
use Rattle.fill_edges.proofs.Laws.Together.{Sides}

-- an edge of the loop runs from v to u
pub record EdgeAgainst (corners loop : List ℕ) (u v : ℕ) : Type 0 where
  pub at : ℕ
  pub at_below : at < length loop
  pub starts : start_of corners (get_or loop at 0) ≡ v
  pub ends : end_of corners (get_or loop at 0) ≡ u

module _ (corners loop : List ℕ) (closed : Closed corners loop) (some : 0 < length loop) where
  abbrev vertex : ℕ → ℕ
  vertex = vertex_of (ring corners loop)

  long : length (ring corners loop) ≡ length loop
  long = length-map loop (start_of corners)

  vertex_at : (i : ℕ) → i < length loop → vertex i ≡ start_of corners (get_or loop i 0)
  vertex_at i l = map_at (start_of corners) 0 0 loop i l

  pub turn_against : (u v : ℕ) → Turn (length (ring corners loop)) (vertex_of (ring corners loop)) u v → EdgeAgainst corners loop u v
  turn_against u v (back j l e f) =
      let m : suc j < length loop = omega (arith, long) in
      record {
        at = j;
        at_below = omega arith;
        starts = sym (vertex_at j (omega arith)) ∙ f;
        ends = closed_next corners loop closed j m ∙ sym (vertex_at (suc j) m) ∙ e;
      }
  turn_against u v (round e f) =
      let k : length loop - 1 ≡ length (ring corners loop) - 1 = omega (arith, long) in
      record {
        at = length loop - 1;
        at_below = omega arith;
        starts = sym (vertex_at (length loop - 1) (omega arith)) ∙ ap vertex k ∙ f;
        ends = closed.closes (length loop - 1) (omega arith) ∙ sym (vertex_at 0 some) ∙ e;
      }

  pub against_turn : (u v : ℕ) → EdgeAgainst corners loop u v → Turn (length (ring corners loop)) (vertex_of (ring corners loop)) u v
  against_turn u v a =
      let b : a.at < length loop = a.at_below in
      ⊎_elim
      (λ (l : suc a.at < length loop).
      back a.at (omega (arith, long)) (vertex_at (suc a.at) l ∙ sym (closed_next corners loop closed a.at l) ∙ a.ends) (vertex_at a.at b ∙ a.starts))
      (λ (l : length loop ≤ suc a.at).
      let k : length (ring corners loop) - 1 ≡ a.at = omega (arith, long) in
      round (vertex_at 0 some ∙ sym (closed.closes a.at (omega arith)) ∙ a.ends) (ap vertex k ∙ vertex_at a.at b ∙ a.starts))
      (lt_or_le (suc a.at) (length loop))

module _ (corners : List ℕ) (sound : Sound corners) where
  abbrev loop_at : ℕ → List ℕ
  loop_at l = get_or (loops corners) l []

  -- ring l, and its sides turned round
  abbrev pub ring_at : ℕ → List ℕ
  ring_at l = get_or (map (ring corners) (loops corners)) l []

  abbrev pub Side : ℕ → ℕ → ℕ → Type 0
  Side l u v = Turn (length (ring_at l)) (vertex_of (ring_at l)) u v

  ring_is : (l : ℕ) → ring_at l ≡ ring corners (loop_at l)
  ring_is l = get_or-map (ring corners) (loops corners) l []

  pub rings_many : length (map (ring corners) (loops corners)) ≡ length (loops corners)
  rings_many = length-map (loops corners) (ring corners)

  module _ (l : ℕ) (below : l < length (loops corners)) where
    some : 0 < length (loop_at l)
    some = omega (arith, three_or_more corners sound l below)

    pub side_against : (u v : ℕ) → Side l u v → EdgeAgainst corners (get_or (loops corners) l []) u v
    side_against u v t =
        turn_against corners (loop_at l) (loop_closes corners sound l below) some u v
        (subst (λ (r : List ℕ). Turn (length r) (vertex_of r) u v) (ring_is l) t)

    pub against_side : (u v : ℕ) → EdgeAgainst corners (get_or (loops corners) l []) u v → Side l u v
    against_side u v a =
        subst (λ (r : List ℕ). Turn (length r) (vertex_of r) u v) (sym (ring_is l))
        (against_turn corners (loop_at l) (loop_closes corners sound l below) some u v a)

    pub place_of_lem : (u v : ℕ) (a : EdgeAgainst corners (get_or (loops corners) l []) u v) → Place (loops corners) (get_or (get_or (loops corners) l []) a.at 0)
    place_of_lem u v a = record { loop = l; loop_below = below; at = a.at; at_below = a.at_below; is = refl }

    -- its ring has three vertices or more, all different
    pub ring_of : Ring (ring_at l)
    unfolding Distinct
    ring_of =
        subst Ring (sym (ring_is l))
        (record {
          different = no_vertex_twice corners sound l below;
          three = omega (arith, three_or_more corners sound l below, length-map (loop_at l) (start_of corners));
        })

  against_there : (l u v : ℕ) → l < length (loops corners) → EdgeAgainst corners (loop_at l) u v → 0 < times corners v u
  against_there l u v k a =
      half_times corners sound.triples v u (get_or (loop_at l) a.at 0)
      (record {
        in_list = ((one_loop corners sound).nothing_else (get_or (loop_at l) a.at 0) (place_of_lem l k u v a)).0;
        starts = a.starts;
        ends = a.ends;
      })

  against_open : (l u v : ℕ) → l < length (loops corners) → EdgeAgainst corners (loop_at l) u v → times corners u v ≡ 0
  against_open l u v k a =
      sym (ap₂ (times corners) a.ends a.starts)
      ∙ open_times corners sound.triples (get_or (loop_at l) a.at 0) ((one_loop corners sound).nothing_else (get_or (loop_at l) a.at 0) (place_of_lem l k u v a)).1

  against_one : (l m u v : ℕ) → l < length (loops corners) → m < length (loops corners) → EdgeAgainst corners (loop_at l) u v → EdgeAgainst corners (loop_at m) u v → l ≡ m
  unfolding place_of_lem
  against_one l m u v k q a b =
      let p = place_of_lem l k u v a in
      let r = place_of_lem m q u v b in
      let e : ℕ = get_or (loop_at l) a.at 0 in
      let f : ℕ = get_or (loop_at m) b.at 0 in
      let same : f ≡ e =
      one_edge corners sound f e ((one_loop corners sound).nothing_else f r).0 ((one_loop corners sound).nothing_else e p).0
      (b.starts ∙ sym a.starts) (b.ends ∙ sym a.ends) in
      ((one_loop corners sound).once e p (record { loop = m; loop_below = q; at = b.at; at_below = b.at_below; is = same })).0

  -- the sides of the loops are open edges, each of one loop
  pub surface_sides : (n : ℕ) → n ≡ length (loops corners) → Sides corners n Side
  surface_sides n e =
      record {
        there = λ l u v k t. let q : l < length (loops corners) = omega arith in against_there l u v q (side_against l q u v t);
        opens = λ l u v k t. let q : l < length (loops corners) = omega arith in against_open l u v q (side_against l q u v t);
        one_loop =
            λ l m u v k j s t.
            let q : l < length (loops corners) = omega arith in
            let r : m < length (loops corners) = omega arith in
            against_one l m u v q r (side_against l q u v s) (side_against m r u v t);
      }
