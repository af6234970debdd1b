-- The path and the loops after the first k edges of a cycle, behind the loops of the cycles before: one more edge makes them grow, they have room, and no edge of the path starts where the walk stands.
use Rattle.std.specs.Prelude.{Option, Some}
use mathlib.Core.Path.{◌≡◌, sym, ap, ◌∙◌}
use mathlib.Core.Bool.{true}
use mathlib.Core.List.{List, [], ◌∷◌, ◌++◌, append-nil}
use Prim.Native.Nat.{ℕ, suc, ◌+◌, ◌*◌, ◌/◌, ◌<◌, ◌≤◌}
use native.Mathlib.Omega.{arith}
use lib.ListN.{length, get_or, take, length-append}
use lib.Seq.{take-suc, take_all}
use Rattle.surface_rules.specs.Edges.{Sound, start_of, end_of, is_open}
use Rattle.loop_rules.specs.Loops.{Split, starts_at, cut, grow, grow_all, cycle, leads, loops_of, loops_below}
use Rattle.loop_rules.proofs.Laws.Linked.{FromTo, from_to_cut, closed_from_to}
use Rattle.loop_rules.proofs.Laws.Paths.{Walked, fresh, walked_fresh, grow_all_walked}
use Rattle.loop_rules.proofs.Laws.Behind.{behind, grow_behind, grow_all_snoc}
use Rattle.loop_rules.proofs.Laws.Kept.{total}
use Rattle.loop_rules.proofs.Laws.Cycles.{ahead, cycle_at}
use Rattle.loop_rules.proofs.Laws.Leaders.{leads_open}
use Rattle.loop_rules.proofs.Laws.Rounds.{cycle_closed, cycle_empties}
use Rattle.loop_rules.proofs.Laws.Surfaces.{edges_below}
use Rattle.loop_rules.proofs.Laws.Middle.{walk_total, walk_room, walk_few}

-- what k edges of the cycle of h make, behind the loops of the smaller cycles
unfoldable pub after : List ℕ → ℕ → ℕ → Split
after corners h k = behind (loops_below corners h) (grow_all corners fresh (take k (cycle corners h)))

pub after_none : (corners : List ℕ) (h : ℕ) → after corners h 0 ≡ record { path = []; listed = loops_below corners h }
unfolding after grow_all
after_none corners h = ap (λ (ls : List (List ℕ)). record { path = []; listed = ls }) (append-nil (loops_below corners h))

module _ (corners : List ℕ) (sound : Sound corners) (h : ℕ) (lh : h < length corners) (t : leads corners h ≡ true) where
  opens : is_open corners h ≡ true
  opens = leads_open corners h t

  pub take_more : (k : ℕ) → k < length (cycle corners h) → take (suc k) (cycle corners h) ≡ take k (cycle corners h) ++ (ahead corners k h ∷ [])
  take_more k l = take-suc (cycle corners h) k 0 l ∙ ap (λ (z : ℕ). take k (cycle corners h) ++ (z ∷ [])) (cycle_at corners sound h lh opens k l)

  pub after_more : (k : ℕ) → k < length (cycle corners h) → after corners h (suc k) ≡ grow corners (after corners h k) (ahead corners k h)
  unfolding after
  after_more k l =
      ap (λ (es : List ℕ). behind (loops_below corners h) (grow_all corners fresh es)) (take_more k l)
      ∙ ap (behind (loops_below corners h)) (grow_all_snoc corners fresh (take k (cycle corners h)) (ahead corners k h))
      ∙ sym (grow_behind corners (loops_below corners h) (grow_all corners fresh (take k (cycle corners h))) (ahead corners k h))

  pub after_total : (k : ℕ) → k ≤ length (cycle corners h) → total (after corners h k).listed + length (after corners h k).path ≡ length (edges_below corners h) + k
  unfolding after
  after_total = walk_total corners sound h lh t

  -- loops and path have room
  pub after_fits : (k : ℕ) → k ≤ length (cycle corners h) → total (after corners h k).listed + length (after corners h k).path ≤ length corners
  unfolding after
  after_fits = walk_room corners sound h lh t

  -- the loops are no more than a third of their edges
  after_few : (k : ℕ) → k ≤ length (cycle corners h) → 3 * length (after corners h k).listed ≤ total (after corners h k).listed
  unfolding after
  after_few = walk_few corners sound h lh t

  -- a loop that the next edge closes has room in the list of loops
  pub after_room : (k : ℕ) → k < length (cycle corners h) → (j : ℕ) → starts_at corners ((after corners h k).path ++ (ahead corners k h ∷ [])) (end_of corners (ahead corners k h)) ≡ Some j → length (after corners h k).listed < length corners / 3
  unfolding grow
  after_room k l j q =
      let g : after corners h (suc k) ≡ cut (Some j) ((after corners h k).path ++ (ahead corners k h ∷ [])) (after corners h k).listed =
      after_more k l ∙ ap (λ (z : Option ℕ). cut z ((after corners h k).path ++ (ahead corners k h ∷ [])) (after corners h k).listed) q in
      let n : length (after corners h (suc k)).listed ≡ length (after corners h k).listed + 1 = ap (λ (s : Split). length s.listed) g ∙ length-append (after corners h k).listed _ in
      omega (arith, after_few (suc k) l, after_fits (suc k) l)

  -- no edge of the path starts where the walk stands
  pub after_free : (k : ℕ) → k < length (cycle corners h) → (i : ℕ) → i < length (after corners h k).path → start_of corners (get_or (after corners h k).path i 0) ≡ start_of corners (ahead corners k h) → ⊥
  unfolding after
  after_free k l =
      let s : ℕ = start_of corners (get_or (cycle corners h) 0 0) in
      let goes : FromTo corners s (take k (cycle corners h)) (start_of corners (get_or (cycle corners h) k 0)) = (from_to_cut corners s (cycle corners h) s k (closed_from_to corners (cycle corners h) (cycle_closed corners sound h lh opens)) l).0 in
      let w : Walked corners s (grow_all corners fresh (take k (cycle corners h))) (start_of corners (get_or (cycle corners h) k 0)) = grow_all_walked corners s fresh s (take k (cycle corners h)) _ goes (walked_fresh corners s) in
      λ i m q. w.path.free i m (q ∙ ap (start_of corners) (sym (cycle_at corners sound h lh opens k l)))

  -- at the end of the cycle its loops are listed, and no path is left
  pub after_all : (k : ℕ) → k ≡ length (cycle corners h) → after corners h k ≡ record { path = []; listed = loops_below corners h ++ loops_of corners h }
  unfolding after loops_of
  after_all k q =
      ap (λ (es : List ℕ). behind (loops_below corners h) (grow_all corners fresh es)) (take_all k (cycle corners h) (omega arith))
      ∙ ap (λ (p : List ℕ). record { path = p; listed = loops_below corners h ++ (grow_all corners fresh (cycle corners h)).listed }) (cycle_empties corners sound h lh opens)
