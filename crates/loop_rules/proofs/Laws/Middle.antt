-- In the middle of the walk no buffer is full: each edge walked is on the path or in a listed loop, the edges walked are different
-- half-edges of the surface, and each loop has taken 3 of them or more.
use mathlib.Core.Path.{◌≡◌, refl, ap}
use mathlib.Core.Bool.{true}
use mathlib.Core.List.{List, [], ◌∷◌, ◌++◌, map, flatten}
use Prim.Native.Nat.{ℕ, suc, ◌+◌, ◌*◌, ◌<◌, ◌≤◌}
use native.Mathlib.Omega.{arith}
use lib.ListN.{length, take, drop, length-append, length-map, take-append-drop}
use lib.Seq.{length-take-le}
use Rattle.surface_rules.specs.Edges.{Sound, start_of, is_open}
use Rattle.loop_rules.specs.Loops.{cycle, leads, grow_all, loops_below, ring}
use Rattle.loop_rules.proofs.Laws.Leaders.{leads_open}
use Rattle.loop_rules.proofs.Laws.Linked.{linked_front}
use Rattle.loop_rules.proofs.Laws.Paths.{fresh}
use Rattle.loop_rules.proofs.Laws.Kept.{total, total_append, grow_all_total}
use Rattle.loop_rules.proofs.Laws.Places.{among_front}
use Rattle.loop_rules.proofs.Laws.Three.{Threes, threes_total, threes_append, proper_among, linked_threes}
use Rattle.loop_rules.proofs.Laws.Rounds.{cycle_linked, cycle_proper}
use Rattle.loop_rules.proofs.Laws.Surfaces.{edges_below, edges_leader, edges_few, below_walks}

module _ (corners : List ℕ) where
  -- a ring has as many vertices as its loop has edges
  pub rings_total : (ls : List (List ℕ)) → length (flatten (map (ring corners) ls)) ≡ total ls
  unfolding total flatten
  rings_total [] = refl
  rings_total (l ∷ ls) = omega (arith, length-append (ring corners l) (flatten (map (ring corners) ls)), length-map l (start_of corners), rings_total ls)

  -- ---- in one cycle, after k of its edges

  -- each edge walked is on the path or in a listed loop
  pub middle_total : (h k : ℕ) → k ≤ length (cycle corners h)
      → total (grow_all corners fresh (take k (cycle corners h))).listed + length (grow_all corners fresh (take k (cycle corners h))).path ≡ k
  unfolding total
  middle_total h k l =
      let front : List ℕ = take k (cycle corners h) in
      let a : total (grow_all corners fresh front).listed + length (grow_all corners fresh front).path ≡ 0 + 0 + length front = grow_all_total corners fresh front in
      omega (arith, length-take-le k (cycle corners h) l)

module _ (corners : List ℕ) (sound : Sound corners) where
  -- the loops listed so far have 3 edges or more each
  pub middle_threes : (h : ℕ) → h < length corners → is_open corners h ≡ true → (k : ℕ) → Threes (grow_all corners fresh (take k (cycle corners h))).listed
  middle_threes h lh oh k =
      let front : List ℕ = take k (cycle corners h) in
      let back : List ℕ = drop k (cycle corners h) in
      linked_threes corners front (linked_front corners front back (rw (take-append-drop k (cycle corners h)) (cycle_linked corners sound h lh oh)))
      (proper_among corners front (cycle corners h) (λ e m. rw (take-append-drop k (cycle corners h)) at (among_front e front back m)) (cycle_proper corners sound h lh oh))

  -- ---- between two cycles

  -- the loops below k have as many edges as were walked
  pub below_total : (k : ℕ) → k ≤ length corners → total (loops_below corners k) ≡ length (edges_below corners k)
  below_total k l = (below_walks corners sound k l).sum

  -- and 3 or more each
  pub below_few : (k : ℕ) → k ≤ length corners → 3 * length (loops_below corners k) ≤ total (loops_below corners k)
  below_few k l = threes_total (loops_below corners k) (below_walks corners sound k l).threes

  -- the cycle of a leader has room after those of the leaders below it
  pub leader_room : (h : ℕ) → h < length corners → leads corners h ≡ true → length (edges_below corners h) + length (cycle corners h) ≤ length corners
  leader_room h lh t = omega (arith, edges_few corners sound (suc h) lh, ap length (edges_leader corners h t), length-append (edges_below corners h) (cycle corners h))

  -- ---- in the cycle of a leader h, after k of its edges and the loops below h

  module _ (h : ℕ) (lh : h < length corners) (t : leads corners h ≡ true) (k : ℕ) (lk : k ≤ length (cycle corners h)) where
    -- what is listed and on the path is what was walked
    pub walk_total : total (loops_below corners h ++ (grow_all corners fresh (take k (cycle corners h))).listed) + length (grow_all corners fresh (take k (cycle corners h))).path ≡ length (edges_below corners h) + k
    walk_total =
        omega (arith, total_append (loops_below corners h) (grow_all corners fresh (take k (cycle corners h))).listed, middle_total corners h k lk, below_total h (omega arith))

    -- no more edges were walked than there are half-edges
    pub walk_room : total (loops_below corners h ++ (grow_all corners fresh (take k (cycle corners h))).listed) + length (grow_all corners fresh (take k (cycle corners h))).path ≤ length corners
    walk_room = omega (arith, walk_total, leader_room h lh t)

    -- and the loops are no more than a third of the edges listed
    pub walk_few : 3 * length (loops_below corners h ++ (grow_all corners fresh (take k (cycle corners h))).listed) ≤ total (loops_below corners h ++ (grow_all corners fresh (take k (cycle corners h))).listed)
    walk_few =
        threes_total _
        (threes_append (loops_below corners h) (grow_all corners fresh (take k (cycle corners h))).listed (below_walks corners sound h (omega arith)).threes
        (middle_threes h lh (leads_open corners h t) k))
