-- The stretches of a set's seats are chained one after the other.
use Prim.Native.Nat.{ℕ, ◌+◌, ◌*◌, ◌/◌, ◌<◌}
use mathlib.Core.Path.{◌≡◌, refl, sym, ap, ◌∙◌, subst}
use mathlib.Core.Logic.{inl, ⊎_elim}
use mathlib.Core.List.{List, [], ◌∷◌, ◌++◌}
use native.Mathlib.Omega.{arith}
use lib.ListN.{length, get_or, length-append}
use Rattle.std.specs.Prelude.{Option, Some, None}
use Rattle.cover_rules.specs.Covers.{Triangle, corners_of, vertex_of}
use Rattle.cover_rules.specs.Sets.{Alike, named}
use Rattle.cover_rules.specs.Workings.Matching.{Seated}
use Rattle.cover_rules.proofs.Laws.Corners.{corners_append, corners_length, corners_whole}
use Rattle.cover_rules.proofs.Laws.Listed.{in_left, in_right, in_cases}
use Rattle.cover_bars.specs.Workings.Chains.{Edge, edge_of, firsts, ChainRoom, ChainDone}
use Rattle.cover_bars.proofs.Laws.Chaining.{Behind, behind_none, behind_room, behind_more, behind_tells}
use Rattle.cover_bars.proofs.Laws.Triples.{firsts_append, firsts_length}
use Rattle.cover_sum.specs.Workings.Triples.{triple_at}
use Rattle.cover_sum.proofs.Laws.Passed.{Passed, passed_none, passed_all, passed_more}
use Rattle.judge_seat.specs.declared.Seat.{Seat}
use Rattle.judge_seat.specs.Workings.Seats.{placed, SeatOf, SeatFound}
use Rattle.judge_seat.proofs.Laws.Places.{different}
use Rattle.judge_seat.proofs.Laws.Seated.{seatless}
use Rattle.judge_chain.specs.Workings.Chaining.{CoverRoom, CoverChained}
use Rattle.judge_chain.proofs.Laws.Joined.{Seats, seats_same}

-- ---- seats, one more

seats_none : (n : ℕ) (vertex : ℕ → ℕ) → Seats n vertex [] []
seats_none n vertex = record { seated = λ x g. absurd g; all = λ t g. absurd g }

seats_more : (n : ℕ) (vertex : ℕ → ℕ) (s seats : List Triangle) → Seats n vertex s seats → (t x : Triangle) → Seated n x → Alike t (named vertex x)
    → Seats n vertex (s ++ (t ∷ [])) (seats ++ (x ∷ []))
seats_more n vertex s seats h t x k a = record {
  seated = λ y g.
      ⊎_elim
      (λ o. let r = h.seated y o in (r.0, (r.1.0, in_left r.1.0 s (t ∷ []) r.1.1, r.1.2)))
      (⊎_elim
      (λ e. (subst (Seated n) (sym e) k, (t, in_right t s (t ∷ []) (inl refl), subst (λ (z : Triangle). Alike t (named vertex z)) (sym e) a)))
      absurd)
      (in_cases y seats (x ∷ []) g);
  all = λ y g.
      ⊎_elim
      (λ o. let r = h.all y o in (r.0, in_left r.0 seats (x ∷ []) r.1, r.2, r.3))
      (⊎_elim (λ e. (x, in_right x seats (x ∷ []) (inl refl), k, subst (λ (z : Triangle). Alike z (named vertex x)) (sym e) a)) absurd)
      (in_cases y s (t ∷ []) g);
}

-- ---- the stretches of seats, as edges

module _ (vertex : ℕ → ℕ) where
  abbrev pub stretches : List Triangle → List Edge
  stretches seats = firsts (corners_of vertex seats)

  stretches_none : stretches [] ≡ []
  unfolding firsts
  stretches_none = refl

  stretches_one : (x : Triangle) → stretches (x ∷ []) ≡ edge_of (vertex x.first) (vertex x.second) ∷ []
  unfolding firsts
  stretches_one x = refl

  stretches_more : (seats : List Triangle) (x : Triangle)
      → stretches (seats ++ (x ∷ [])) ≡ stretches seats ++ (edge_of (vertex x.first) (vertex x.second) ∷ [])
  stretches_more seats x =
      ap firsts (corners_append vertex seats (x ∷ []))
      ∙ firsts_append (corners_of vertex seats) (corners_of vertex (x ∷ [])) (corners_whole vertex seats)
      ∙ ap (λ (l : List Edge). stretches seats ++ l) (stretches_one x)

  stretches_length : (seats : List Triangle) → length (stretches seats) ≡ length seats
  stretches_length seats = omega (arith, firsts_length (corners_of vertex seats), corners_length vertex seats)

-- ---- the loop

-- t triangles were passed, and an edge was chained for each
pub record Linking (ring stamps : List ℕ) (base : ℕ) (corners heads₀ links₀ ends₀ : List ℕ) (e t : ℕ) (heads links ends : List ℕ) : Type 0 where
  pub room : CoverRoom ring stamps base corners heads₀ links₀ ends₀ e
  pub front : List Triangle
  pub passed : Passed corners (3 * t) front
  pub seats : List Triangle
  pub many : length seats ≡ t
  pub found : Seats (length ring) (vertex_of ring) front seats
  pub behind : Behind e heads₀ links₀ ends₀ (stretches (vertex_of ring) seats) heads links ends

pub chaining_begins : {ring stamps : List ℕ} {base : ℕ} {corners heads links ends : List ℕ} {e : ℕ} → CoverRoom ring stamps base corners heads links ends e
    → Linking ring stamps base corners heads links ends e 0 heads links ends
chaining_begins {ring} room = record {
  room = room;
  front = [];
  passed = passed_none room.threes;
  seats = [];
  many = refl;
  found = seats_none (length ring) (vertex_of ring);
  behind = behind_none room.heads_long (stretches_none (vertex_of ring));
}

module _ {ring stamps : List ℕ} {base : ℕ} {corners heads₀ links₀ ends₀ : List ℕ} {e t : ℕ} {heads links ends : List ℕ}
    (going : Linking ring stamps base corners heads₀ links₀ ends₀ e t heads links ends) where
  -- an edge a seat
  stretched : e + length (stretches (vertex_of ring) going.seats) ≡ e + t
  stretched = omega (arith, stretches_length (vertex_of ring) going.seats, going.many)

  pub chaining_ends : t ≡ length corners / 3 → CoverChained ring corners heads₀ links₀ ends₀ e (e + length corners / 3) heads links ends
  chaining_ends l = record {
    few = omega arith;
    heads_long = going.behind.heads_long;
    tells = λ input laid c whole long covering sides.
        behind_tells going.behind (omega (arith, stretched))
        (λ u v.
        seats_same ring corners (different going.room.ringed) c covering u v input laid whole sides going.room.threes going.seats
        (subst (λ (s : List Triangle). Seats (length ring) (vertex_of ring) s going.seats)
        (sym (passed_all going.passed (omega (arith, going.room.threes.threes))))
        going.found));
  }

  module _ (more : t < length corners / 3) {s : Option Seat} (at : SeatFound corners (3 * t) stamps base s) where
    -- a set with a triangle that has no seat is no cover
    pub chaining_stops : s ≡ None → CoverChained ring corners heads₀ links₀ ends₀ e (e + t) heads links ends
    chaining_stops n = record {
      few = omega arith;
      heads_long = going.behind.heads_long;
      tells = λ input laid c whole long covering sides told. absurd (seatless going.passed (omega arith) at n ring going.room.ringed c covering);
    }

    module _ {k : Seat} (is : s ≡ Some k) where
      seat : SeatOf (length ring) (vertex_of ring) (triple_at corners (3 * t)) (Some k)
      seat = subst (SeatOf (length ring) (vertex_of ring) (triple_at corners (3 * t))) is (at.seat ring going.room.ringed)

      -- the seat's positions are the ring's
      pub chaining_inside : (k.from < k.between) × (k.between < k.to) × (k.to < length ring)
      chaining_inside = (seat.0.low, seat.0.high, seat.0.to)

      pub chaining_chain : ChainRoom (e + t) (get_or ring k.from 0) (get_or ring k.to 0) heads links ends
      chaining_chain =
          let o = going.room in
          let w = chaining_inside in
          behind_room going.behind (omega (arith, o.links_room)) (omega (arith, o.ends_room)) (o.ringed.inside k.from (omega arith)) (o.ringed.inside k.to w.2)
          (omega (arith, o.few))

      pub chaining_more : {heads' links' ends' : List ℕ} → ChainDone (e + t) (get_or ring k.from 0) (get_or ring k.to 0) heads links ends heads' links' ends'
          → Linking ring stamps base corners heads₀ links₀ ends₀ e (t + 1) heads' links' ends'
      chaining_more done = record {
        room = going.room;
        front = going.front ++ (triple_at corners (3 * t) ∷ []);
        passed = subst (λ (q : ℕ). Passed corners q (going.front ++ (triple_at corners (3 * t) ∷ []))) (omega arith) (passed_more going.passed (omega arith));
        seats = going.seats ++ (placed k ∷ []);
        many = omega (arith, length-append going.seats (placed k ∷ []), going.many);
        found = seats_more (length ring) (vertex_of ring) going.front going.seats going.found (triple_at corners (3 * t)) (placed k) seat.0 seat.1;
        behind = behind_more going.behind stretched (stretches_more (vertex_of ring) going.seats (placed k)) done;
      }
