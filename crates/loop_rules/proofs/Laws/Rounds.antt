-- The walk round one cycle comes back to where it began, since each edge's next starts where it ends, and no edge of it runs opposite to
-- another, since all are open; so its loops are loops of 3 edges or more and have the cycle's edges.
use mathlib.Core.Path.{◌≡◌, sym, ap, ◌∙◌}
use mathlib.Core.Bool.{true}
use mathlib.Core.List.{List, []}
use Prim.Native.Nat.{ℕ, suc, ◌-◌, ◌<◌}
use native.Mathlib.Omega.{arith}
use lib.ListN.{length, get_or}
use Rattle.surface_rules.specs.Edges.{Sound, start_of, end_of, is_open}
use Rattle.surface_rules.proofs.Laws.Edges.{opposed}
use Rattle.loop_rules.specs.Next.{next}
use Rattle.loop_rules.specs.Loops.{cycle, grow_all, loops_of}
use Rattle.loop_rules.proofs.Laws.Distinct.{Bounded}
use Rattle.loop_rules.proofs.Laws.Fan.{next_start}
use Rattle.loop_rules.proofs.Laws.Cycles.{ahead, cycle_at, cycle_closes, cycle_begins, cycle_open, cycle_bounded}
use Rattle.loop_rules.proofs.Laws.Counts.{Among}
use Rattle.loop_rules.proofs.Laws.Linked.{Linked, Closed}
use Rattle.loop_rules.proofs.Laws.Paths.{fresh, closed_empties}
use Rattle.loop_rules.proofs.Laws.Three.{Proper, not_opposite_proper}
use Rattle.loop_rules.proofs.Laws.Walks.{Walks, closed_walks}

module _ (corners : List ℕ) (sound : Sound corners) (h : ℕ) (lh : h < length corners) (oh : is_open corners h ≡ true) where
  -- each edge ends where the one after it starts, and the last where the first starts
  pub cycle_linked : Linked corners (cycle corners h)
  unfolding Linked ahead
  cycle_linked i l =
      let a : get_or (cycle corners h) i 0 ≡ ahead corners i h = cycle_at corners sound h lh oh i (omega arith) in
      let b : get_or (cycle corners h) (suc i) 0 ≡ next corners (ahead corners i h) = cycle_at corners sound h lh oh (suc i) l in
      ap (end_of corners) a ∙ sym (next_start corners (ahead corners i h)) ∙ ap (start_of corners) (sym b)

  pub cycle_closed : Closed corners (cycle corners h)
  cycle_closed =
      record {
        linked = cycle_linked;
        closes =
            λ i n.
            let k : i ≡ length (cycle corners h) - 1 = omega arith in
            let a : get_or (cycle corners h) i 0 ≡ ahead corners i h = cycle_at corners sound h lh oh i (omega arith) in
            let b : next corners (ahead corners i h) ≡ h = ap (λ (j : ℕ). next corners (ahead corners j h)) k ∙ cycle_closes corners sound h lh oh in
            ap (end_of corners) a
            ∙ sym (next_start corners (ahead corners i h))
            ∙ ap (start_of corners) (b ∙ sym (cycle_begins corners sound h lh oh));
      }

  -- every edge of the cycle is an open half-edge of the surface
  pub cycle_among : (e : ℕ) → Among e (cycle corners h) → (e < length corners) × (is_open corners e ≡ true)
  unfolding Bounded
  cycle_among e m =
      (rw m.is at (cycle_bounded corners sound h lh oh m.place m.below), rw m.is at (cycle_open corners sound h lh oh m.place m.below))

  -- an edge that another one opposes is not open
  pub cycle_proper : Proper corners (cycle corners h)
  cycle_proper =
      not_opposite_proper corners (cycle corners h)
      (λ e f m n a b. opposed corners e f (cycle_among f n).0 (record { starts = a; ends = b }) (cycle_among e m).1)

  -- so what its walk lists are loops with its edges
  pub cycle_walks : Walks corners (loops_of corners h) (cycle corners h)
  unfolding loops_of
  cycle_walks = closed_walks corners (cycle corners h) cycle_closed cycle_proper

  -- the path is empty when the cycle ends
  pub cycle_empties : (grow_all corners fresh (cycle corners h)).path ≡ []
  cycle_empties = closed_empties corners (cycle corners h) cycle_closed
