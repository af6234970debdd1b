-- Asking for both parts of every triangle's stretch: in a cover both are sides or have triangles.
use Prim.Native.Nat.{ℕ, ◌+◌, ◌*◌, ◌/◌, ◌<◌, ◌≤◌}
use Rattle.std.specs.Prelude.{Option, Some, None}
use mathlib.Core.Path.{◌≡◌, sym, ◌∙◌, subst}
use mathlib.Core.Bool.{Bool, true, false, not, ◌&&◌, true≢false}
use mathlib.Core.Logic.{⊎_elim}
use mathlib.Core.List.{List, [], ◌∷◌, ◌++◌}
use native.Mathlib.Omega.{arith}
use lib.ListN.{length, get_or}
use borrow.Author.Tests.{not-true, not-false}
use Rattle.base_limits.specs.Limits as limits
use Rattle.surface_rules.specs.Threes.{threes}
use Rattle.surface_rules.proofs.Laws.Tests.{both_true}
use Rattle.cover_rules.specs.Covers.{Triangle, vertex_of}
use Rattle.cover_rules.specs.Workings.Matching.{In, Parted}
use Rattle.cover_rules.proofs.Laws.Listed.{in_cases}
use Rattle.cover_rules.proofs.Laws.Closed.{covered_parts}
use Rattle.cover_bits.specs.Workings.Masks.{bit}
use Rattle.cover_sum.specs.Workings.Triples.{triple_at}
use Rattle.cover_sum.proofs.Laws.Passed.{Passed, passed_in, passed_more}
use Rattle.judge_seat.specs.declared.Seat.{Seat}
use Rattle.judge_seat.specs.Workings.Seats.{Ringed, placed, SeatOf, SeatFound}
use Rattle.judge_seat.proofs.Laws.Places.{different}
use Rattle.judge_seat.proofs.Laws.Seated.{seatless}
use Rattle.judge_match.specs.Workings.Rows.{Held, Closes}
use Rattle.judge_match.proofs.Laws.Tests.{and_both}

-- the first t triangles have both their parts
pub record Closing (corners stamps : List ℕ) (base : ℕ) (rows : List ℕ) (t : ℕ) : Type 0 where
  pub front : List Triangle
  pub passed : Passed corners (3 * t) front
  pub parted : (ring : List ℕ) → Ringed ring base stamps → Held (length ring) (vertex_of ring) (threes corners) rows
      → (x : Triangle) → In x front → Parted (length ring) (vertex_of ring) (threes corners) x

module _ {corners stamps : List ℕ} {base : ℕ} {rows : List ℕ} {t : ℕ} (g : Closing corners stamps base rows t) where
  module _ (l : t < length corners / 3) {a : Option Seat} (f : SeatFound corners (3 * t) stamps base a) where
    pub closing_seatless : a ≡ None → Closes corners stamps base rows false
    closing_seatless n = λ ring h z. seatless g.passed (omega arith) f n ring h

    -- p and s tell whether the parts are set
    module _ {k : Seat} (is : a ≡ Some k) {p s : Bool} (ep : p ≡ bit (get_or rows k.from 0) k.between) (es : s ≡ bit (get_or rows k.between 0) k.to) where
      seat : (ring : List ℕ) → Ringed ring base stamps → SeatOf (length ring) (vertex_of ring) (triple_at corners (3 * t)) (Some k)
      seat ring h = subst (SeatOf (length ring) (vertex_of ring) (triple_at corners (3 * t))) is (f.seat ring h)

      inside : (ring : List ℕ) → Ringed ring base stamps → (k.from < k.between) × (k.between < k.to) × (k.to < length ring) × (length ring ≤ limits.longest)
      inside ring h = let y = seat ring h in (y.0.low, y.0.high, y.0.to, h.few)

      here : (ring : List ℕ) → Ringed ring base stamps → Held (length ring) (vertex_of ring) (threes corners) rows → not (p && s) ≡ false
          → Parted (length ring) (vertex_of ring) (threes corners) (triple_at corners (3 * t))
      here ring h z e =
          let y = seat ring h in
          let b = both_true p s (not-false (p && s) e) in
          let w = inside ring h in
          record {
            seat = placed k;
            seated = y.0;
            alike = y.1;
            before = z.tells k.from k.between (omega arith) (omega arith) (sym ep ∙ b.0);
            after = z.tells k.between k.to (omega arith) (omega arith) (sym es ∙ b.1);
          }

      pub closing_more : not (p && s) ≡ false → Closing corners stamps base rows (t + 1)
      closing_more e = record {
        front = g.front ++ (triple_at corners (3 * t) ∷ []);
        passed = subst (λ (q : ℕ). Passed corners q (g.front ++ (triple_at corners (3 * t) ∷ []))) (omega arith) (passed_more g.passed (omega arith));
        parted = λ ring h z x n.
            ⊎_elim (g.parted ring h z x)
            (⊎_elim (λ d. subst (Parted (length ring) (vertex_of ring) (threes corners)) (sym d) (here ring h z e)) absurd)
            (in_cases x g.front (triple_at corners (3 * t) ∷ []) n);
      }

      pub closing_stops : not (p && s) ≡ true → Closes corners stamps base rows false
      closing_stops e = λ ring h z c v.
          let y = seat ring h in
          let x = inside ring h in
          let w = covered_parts (length ring) (vertex_of ring) (different h) (threes corners) c v (triple_at corners (3 * t)) (placed k) (passed_in g.passed (omega arith)) y.0 y.1 in
          true≢false
          (sym (and_both p s (ep ∙ z.shows k.from k.between (omega arith) (omega arith) w.0) (es ∙ z.shows k.between k.to (omega arith) (omega arith) w.1))
          ∙ not-true (p && s) e)
