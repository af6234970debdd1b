-- Collecting the stretches of a set, triangle by triangle.
use Prim.Native.Nat.{ℕ, ◌+◌, ◌*◌, ◌/◌, ◌<◌}
use native.Mathlib.Omega.{arith}
use Rattle.std.specs.Prelude.{Option, Some, None}
use mathlib.Core.Path.{◌≡◌, ◌∙◌, subst}
use mathlib.Core.Bool.{false, ◌||◌}
use mathlib.Core.List.{List, [], ◌∷◌, ◌++◌}
use lib.Dec.{eqb}
use lib.ListN.{length, get_or, set, length-set}
use Rattle.base_limits.specs.Limits as limits
use Rattle.cover_rules.specs.Covers.{Triangle, vertex_of}
use Rattle.cover_bits.specs.Workings.Masks.{bit}
use Rattle.cover_sum.specs.Workings.Triples.{triple_at}
use Rattle.cover_sum.proofs.Laws.Passed.{Passed, passed_more}
use Rattle.judge_seat.specs.declared.Seat.{Seat}
use Rattle.judge_seat.specs.Workings.Seats.{Ringed, SeatOf, SeatFound}
use Rattle.judge_seat.proofs.Laws.Places.{different}
use Rattle.judge_seat.proofs.Laws.Seated.{seatless}
use Rattle.judge_match.specs.Workings.Rows.{Held, Collects}
use Rattle.judge_match.proofs.Laws.Rows.{held_more}

-- the stretches of the first t triangles were added to the rows
pub record Collecting (corners stamps : List ℕ) (base : ℕ) (rows₀ : List ℕ) (t : ℕ) (rows : List ℕ) : Type 0 where
  pub front : List Triangle
  pub passed : Passed corners (3 * t) front
  pub long : length rows ≡ limits.longest
  pub held : (ring : List ℕ) → Ringed ring base stamps → Held (length ring) (vertex_of ring) [] rows₀ → Held (length ring) (vertex_of ring) front rows

module _ {corners stamps : List ℕ} {base : ℕ} {rows₀ : List ℕ} {t : ℕ} {rows : List ℕ} (g : Collecting corners stamps base rows₀ t rows) where
  module _ (l : t < length corners / 3) {a : Option Seat} (f : SeatFound corners (3 * t) stamps base a) where
    pub collecting_stops : a ≡ None → Collects corners stamps base rows₀ rows false
    collecting_stops n = record { long = g.long; collects = λ ring h z. seatless g.passed (omega arith) f n ring h }

    pub collecting_more : {k : Seat} (w : ℕ) → a ≡ Some k → ((j : ℕ) → j < limits.longest → bit w j ≡ (bit (get_or rows k.from 0) j || eqb j k.to))
        → Collecting corners stamps base rows₀ (t + 1) (set rows k.from w)
    collecting_more {k} w is b = record {
      front = g.front ++ (triple_at corners (3 * t) ∷ []);
      passed = subst (λ (q : ℕ). Passed corners q (g.front ++ (triple_at corners (3 * t) ∷ []))) (omega arith) (passed_more g.passed (omega arith));
      long = length-set rows k.from w ∙ g.long;
      held = λ ring h z.
          let y = subst (SeatOf (length ring) (vertex_of ring) (triple_at corners (3 * t))) is (f.seat ring h) in
          held_more (length ring) (vertex_of ring) (different h) h.few g.front rows (g.held ring h z) (triple_at corners (3 * t)) k.from k.to k.between y.0 y.1 w b;
    }
