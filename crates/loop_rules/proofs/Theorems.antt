-- What the demands cite of the loops of a surface that the refusals 2, 5 and 6 let pass: each open edge stands once in a loop, and a loop
-- has 3 edges or more and meets no vertex twice, since that holds of the loops of each cycle and the open edges fall into cycles.
use mathlib.Core.Path.{◌≡◌, ◌∙◌}
use mathlib.Core.Bool.{true}
use mathlib.Core.List.{List, [], map, flatten}
use Prim.Native.Nat.{ℕ, ◌*◌, ◌/◌, ◌<◌, ◌≤◌}
use native.Mathlib.Omega.{arith}
use lib.ListN.{length, get_or}
use Rattle.surface_rules.specs.Edges.{Sound, start_of, end_of, is_open}
use Rattle.loop_rules.specs.Next.{next}
use Rattle.loop_rules.specs.Loops.{cycle, grow_all, loops, ring}
use Rattle.loop_rules.proofs.Laws.Distinct.{Distinct}
use Rattle.loop_rules.proofs.Laws.Fan.{next_start, next_open, next_inj, next_below}
use Rattle.loop_rules.proofs.Laws.Counts.{Same}
use Rattle.loop_rules.proofs.Laws.Each.{each_at}
use Rattle.loop_rules.proofs.Laws.Linked.{Closed}
use Rattle.loop_rules.proofs.Laws.Paths.{Loop, fresh}
use Rattle.loop_rules.proofs.Laws.Kept.{total}
use Rattle.loop_rules.proofs.Laws.Places.{Place, Parted}
use Rattle.loop_rules.proofs.Laws.Three.{Threes, threes_total}
use Rattle.loop_rules.proofs.Laws.Walks.{walks_parted}
use Rattle.loop_rules.proofs.Laws.Rounds.{cycle_empties}
use Rattle.loop_rules.proofs.Laws.Surfaces.{edges_below, surface_walks, surface_distinct, surface_open, open_surface}
use Rattle.loop_rules.proofs.Laws.Middle.{rings_total}
use Rattle.loop_rules.proofs.Laws.Opens.{open_edges, open_count, opens_few, walked_same, walked_count}

-- "From open u to v ... the first open one is the next": g is an open half-edge of the surface and starts where h ends.
pub record Follows (corners : List ℕ) (h g : ℕ) : Type 0 where
  pub below : g < length corners
  pub opens : is_open corners g ≡ true
  pub starts : start_of corners g ≡ end_of corners h

-- Every open half-edge of the surface stands in a loop, none stands at two places, and nothing else stands in a loop.
pub record InOneLoop (corners : List ℕ) : Type 0 where
  pub placed : (e : ℕ) → e < length corners → is_open corners e ≡ true → Place (loops corners) e
  pub once : (e : ℕ) (a b : Place (loops corners) e) → (a.loop ≡ b.loop) × (a.at ≡ b.at)
  pub nothing_else : (e : ℕ) → Place (loops corners) e → (e < length corners) × (is_open corners e ≡ true)

module _ (corners : List ℕ) (sound : Sound corners) where
  -- Next is total on the open edges: from each it is an open edge, which starts where that one ends.
  pub next_total : (h : ℕ) → h < length corners → is_open corners h ≡ true → Follows corners h (next corners h)
  next_total h l o = record { below = next_below corners sound h l; opens = next_open corners sound h l o; starts = next_start corners h }

  -- "Next is one-to-one on the open edges."
  pub next_one_to_one : (g h : ℕ) → g < length corners → h < length corners → is_open corners g ≡ true → is_open corners h ≡ true → next corners g ≡ next corners h → g ≡ h
  next_one_to_one = next_inj corners sound

  -- Every open edge lies in exactly one loop, at exactly one place, and nothing else lies in a loop.
  pub one_loop : InOneLoop corners
  one_loop =
      let walked : List ℕ = edges_below corners (length corners) in
      let parted : Parted (loops corners) walked = walks_parted corners (loops corners) walked (surface_walks corners sound) (surface_distinct corners sound) in
      record {
        placed = λ e l o. parted.placed e (open_surface corners sound e l o);
        once = parted.once;
        nothing_else = λ e w. surface_open corners sound e (parted.within e w);
      }

  -- "Every loop has 3 or more edges."
  pub three_or_more : (i : ℕ) → i < length (loops corners) → 3 ≤ length (get_or (loops corners) i [])
  unfolding Threes
  three_or_more = each_at (λ (l : List ℕ). 3 ≤ length l) (loops corners) (surface_walks corners sound).threes

  -- what is listed is a loop
  each_loop : (i : ℕ) → i < length (loops corners) → Loop corners (get_or (loops corners) i [])
  each_loop = each_at (Loop corners) (loops corners) (surface_walks corners sound).loops

  -- "... and no vertex twice."
  pub no_vertex_twice : (i : ℕ) → i < length (loops corners) → Distinct (ring corners (get_or (loops corners) i []))
  no_vertex_twice i l = (each_loop i l).apart

  -- Each edge of a loop ends where the next one starts, and the last where the first starts.
  pub loop_closes : (i : ℕ) → i < length (loops corners) → Closed corners (get_or (loops corners) i [])
  loop_closes i l = (each_loop i l).closed

  -- When the walk round the cycle of an open edge ends, the path is empty: no edge is left over.
  pub path_empty : (h : ℕ) → h < length corners → is_open corners h ≡ true → (grow_all corners fresh (cycle corners h)).path ≡ []
  path_empty = cycle_empties corners sound

  -- The edges of all loops are the open edges, each as often, in another order.
  pub edges_are_open_edges : Same (flatten (loops corners)) (open_edges corners)
  unfolding Same
  edges_are_open_edges e = (surface_walks corners sound).same e ∙ walked_same corners sound e

  -- A loop has as many ring vertices as edges, so those of all rings are as many as the loops' lengths come to.
  pub vertices_in_all : length (flatten (map (ring corners) (loops corners))) ≡ total (loops corners)
  vertices_in_all = rings_total corners (loops corners)

  -- The ring vertices in all are as many as the open edges.
  pub vertices_are_open_edges : total (loops corners) ≡ open_count corners
  vertices_are_open_edges = (surface_walks corners sound).sum ∙ walked_count corners sound

  -- So there are no more ring vertices than half-edges.
  pub vertices_few : total (loops corners) ≤ length corners
  unfolding open_edges
  vertices_few = omega (arith, vertices_are_open_edges, opens_few corners (length corners))

  -- Each loop has three of them or more, so three times the loops are no more than the half-edges,
  pub loops_few : 3 * length (loops corners) ≤ length corners
  loops_few = omega (arith, vertices_few, threes_total (loops corners) (surface_walks corners sound).threes)

  -- and there are no more loops than triangles.
  pub loops_third : length (loops corners) ≤ length corners / 3
  loops_third = omega (arith, loops_few)
