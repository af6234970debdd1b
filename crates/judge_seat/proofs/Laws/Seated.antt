-- The seat of a triangle of a set: the places of its corners, turned; none, if a corner lies off the ring. A triangle without a seat
-- stands in no cover.
use Prim.Native.Nat.{ℕ, ◌+◌, ◌<◌}
use mathlib.Core.Path.{◌≡◌, sym, subst}
use mathlib.Core.List.{List}
use lib.ListN.{length, get_or}
use Rattle.std.specs.Prelude.{Option, Some, None}
use Rattle.base_limits.specs.Limits as limits
use Rattle.surface_rules.specs.Threes.{threes}
use Rattle.cover_rules.specs.Covers.{Cover, Triangle, on, vertex_of}
use Rattle.cover_rules.specs.Sets.{Alike, named}
use Rattle.cover_rules.proofs.Laws.Sets.{by_corners}
use Rattle.cover_rules.proofs.Laws.Closed.{Below, below_alike, alike_named, seat_alike, covered_seat, cover_seated}
use Rattle.cover_sum.specs.Workings.Triples.{triple_at}
use Rattle.cover_sum.proofs.Laws.Passed.{Passed, passed_in}
use Rattle.judge_seat.specs.declared.Seat.{Seat}
use Rattle.judge_seat.specs.Workings.Seats.{Ringed, Lies, placed, SeatedAs, Fits, SeatOf, SeatFound}
use Rattle.judge_seat.specs.Workings.Covering.{Covering}
use Rattle.judge_seat.proofs.Laws.Places.{different}

-- the corners lie at the positions a, b, c
module _ (set : List ℕ) (q : ℕ) {stamps : List ℕ} {base a b c : ℕ}
    (p : (ring : List ℕ) → Ringed ring base stamps → Lies ring (get_or set q 0) (Some a))
    (r : (ring : List ℕ) → Ringed ring base stamps → Lies ring (get_or set (q + 1) 0) (Some b))
    (s : (ring : List ℕ) → Ringed ring base stamps → Lies ring (get_or set (q + 2) 0) (Some c))
    (la : a < limits.longest) (lb : b < limits.longest) (lc : c < limits.longest) where
  below_row : Below limits.longest (on a b c)
  below_row = record { first_below = la; second_below = lb; third_below = lc }

  module _ (ring : List ℕ) (h : Ringed ring base stamps) where
    on_loop : Below (length ring) (on a b c)
    on_loop = record { first_below = (p ring h).0; second_below = (r ring h).0; third_below = (s ring h).0 }

    by_places : triple_at set q ≡ named (vertex_of ring) (on a b c)
    by_places =
        by_corners (triple_at set q) (named (vertex_of ring) (on a b c))
        (sym (p ring h).1)
        (sym (r ring h).1)
        (sym (s ring h).1)

  fits_of : (k : Option Seat) → SeatedAs (on a b c) k → Fits k
  fits_of (Some k) t = (t.0, t.1, (below_alike limits.longest (on a b c) (placed k) below_row t.2).second_below)
  fits_of None t = tt

  seat_of : (ring : List ℕ) → Ringed ring base stamps → (k : Option Seat) → SeatedAs (on a b c) k → SeatOf (length ring) (vertex_of ring) (triple_at set q) k
  seat_of ring h (Some k) t = (
    record { low = t.0; high = t.1; to = (below_alike (length ring) (on a b c) (placed k) (on_loop ring h) t.2).second_below },
    subst (λ (x : Triangle). Alike x (named (vertex_of ring) (placed k))) (sym (by_places ring h)) (alike_named (vertex_of ring) (on a b c) (placed k) t.2),
  )
  seat_of ring h None t =
      λ u k e.
      t u k.low k.high
      (seat_alike (length ring) (vertex_of ring) (different h) (on a b c) u (on_loop ring h) k
      (subst (λ (x : Triangle). Alike x (named (vertex_of ring) u)) (by_places ring h) e))

  pub seat_turned : (k : Option Seat) → SeatedAs (on a b c) k → SeatFound set q stamps base k
  seat_turned k t = record { fits = fits_of k t; seat = λ ring h. seat_of ring h k t }

-- a triangle of the set that has no seat
pub seatless : {corners stamps : List ℕ} {base q : ℕ} {front : List Triangle} → Passed corners q front → q < length corners
    → {s : Option Seat} → SeatFound corners q stamps base s → s ≡ None → (ring : List ℕ) → Ringed ring base stamps → (c : Cover) → Covering ring (threes corners) c → ⊥
seatless {corners} {stamps} {base} {q} p l f e ring h c v =
    let x = covered_seat (length ring) (vertex_of ring) (different h) (threes corners) c v (triple_at corners q) (passed_in p l) in
    (subst (SeatFound corners q stamps base) e f).seat ring h x.0 (cover_seated (length ring) c v.0 x.0 x.1) x.2
