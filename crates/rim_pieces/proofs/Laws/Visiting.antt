-- What a visit leaves, whatever surface and flood it is part of; and the three visits of a triangle.
use mathlib.Core.Path.{◌≡◌, sym, ap, ◌∙◌}
use mathlib.Core.List.{List}
use Prim.Native.Nat.{ℕ, ◌+◌, ◌*◌, ◌/◌, ◌<◌, ◌≤◌}
use native.Mathlib.Omega.{arith}
use lib.ListN.{length, get_or}
use Rattle.base_limits.specs.Limits as limits
use Rattle.loop_leaders.specs.Workings.Leading.{walked_mark}
use Rattle.rim_pieces.specs.Pieces.{triangle_count}
use Rattle.rim_pieces.specs.Workings.Flooding.{none, Flooded, label_at, Since, Stay, Flooding, VisitRoom, Visited, Visits, AroundRoom, Arounds}
use Rattle.rim_pieces.proofs.Laws.Pushing.{push}
use Rattle.rim_pieces.proofs.Laws.Spreading.{stay_same, stay_on, shared_at, visit_open, visit_old, visit_new, visit_room, around_done}

module _ {turns : List ℕ} {h p : ℕ} {at : Flooded} where
  pub visits_open : walked_mark ≤ get_or turns h 0 → Visits turns h p at at
  visits_open m corners root start done x l mine f = visit_open x h l mine f m

  pub visits_old : get_or turns h 0 < walked_mark → (label_at at (get_or turns h 0 / 3) ≡ none → ⊥) → Visits turns h p at at
  visits_old m n corners root start done x l mine f = visit_old x h l mine f m n

  pub visits_new : get_or turns h 0 < walked_mark → label_at at (get_or turns h 0 / 3) ≡ none → Visits turns h p at (push at (get_or turns h 0 / 3) p)
  visits_new m n corners root start done x l mine f = visit_new x h l mine f m n

  module _ (r : VisitRoom turns h p at) where
    pub across_in : get_or turns h 0 < walked_mark → get_or turns h 0 / 3 < length at.pieces
    across_in m =
        let s = shared_at r.crossing h r.edge m in
        let a = s.2 in
        let b = s.3 in
        let c = r.flooding.flood.pieces_long in
        omega arith

    pub room_in : get_or turns h 0 < walked_mark → label_at at (get_or turns h 0 / 3) ≡ none → at.count < length at.queue
    room_in m n =
        let a = visit_room r.crossing h r.edge r.mine r.flooding m n in
        let b = r.flooding.flood.queue_long in
        omega arith

-- ---- the three visits of a triangle

module _ {turns : List ℕ} {t p : ℕ} {at : Flooded} where
  module _ (r : AroundRoom turns t p at) where
    t_in : t < triangle_count r.corners
    t_in = let a = r.flooding.flood.queued_in r.done r.next in let b = r.here in omega arith

    pub small : 3 * t + 2 < limits.corners
    small = let a = t_in in let b = r.crossing.few in omega arith

    -- any half-edge of t, as long as t has its number
    module _ (h : ℕ) {now : Flooded} (e : h / 3 ≡ t) (s : Stay at now) (f : Flooding r.corners r.root p r.start r.done now) where
      edge : h < length r.corners
      edge = let a = t_in in omega arith

      mine : label_at now (h / 3) ≡ p
      unfolding Since
      mine =
          let m : label_at at t ≡ p = ap (label_at at) (sym r.here) ∙ r.flooding.since r.done r.flooding.begun r.next in
          let w = r.flooding.flood.few in
          ap (label_at now) e ∙ s.same_label t (omega arith) ∙ m

      room_of : VisitRoom turns h p now
      room_of = record { corners = r.corners; root = r.root; start = r.start; done = r.done; crossing = r.crossing; edge = edge; mine = mine; flooding = f }

      visited : {next : Flooded} → Visits turns h p now next → Visited r.corners h r.root p r.start r.done now next
      visited v = v r.corners r.root r.start r.done r.crossing edge mine f

    pub first_room : VisitRoom turns (3 * t) p at
    first_room = room_of (3 * t) (omega arith) stay_same r.flooding

    module _ {at₁ : Flooded} (v₁ : Visits turns (3 * t) p at at₁) where
      one : Visited r.corners (3 * t) r.root p r.start r.done at at₁
      one = visited (3 * t) (omega arith) stay_same r.flooding v₁

      pub second_room : VisitRoom turns (3 * t + 1) p at₁
      second_room = room_of (3 * t + 1) (omega arith) one.stay one.flooding

      module _ {at₂ : Flooded} (v₂ : Visits turns (3 * t + 1) p at₁ at₂) where
        two : Visited r.corners (3 * t + 1) r.root p r.start r.done at₁ at₂
        two = visited (3 * t + 1) (omega arith) one.stay one.flooding v₂

        pub third_room : VisitRoom turns (3 * t + 2) p at₂
        third_room = room_of (3 * t + 2) (omega arith) (stay_on one.stay two.stay) two.flooding

        three : {at₃ : Flooded} → Visits turns (3 * t + 2) p at₂ at₃ → Visited r.corners (3 * t + 2) r.root p r.start r.done at₂ at₃
        three v₃ = visited (3 * t + 2) (omega arith) (stay_on one.stay two.stay) two.flooding v₃

  pub arounds : {at₁ at₂ at₃ : Flooded} → Visits turns (3 * t) p at at₁ → Visits turns (3 * t + 1) p at₁ at₂ → Visits turns (3 * t + 2) p at₂ at₃ → Arounds turns t p at at₃
  arounds v₁ v₂ v₃ corners root start done x next here f =
      let r : AroundRoom turns t p at = record { corners = corners; root = root; start = start; done = done; crossing = x; next = next; here = here; flooding = f } in
      around_done x.sound next here f (one r v₁) (two r v₁ v₂) (three r v₁ v₂ v₃)
