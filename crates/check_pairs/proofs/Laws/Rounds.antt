-- Triangle after triangle is paired until one stops, or until all are and the twins that were looked for below the end are the twins.
use Rattle.std.specs.Prelude.{Option, Some, None}
use mathlib.Core.Path.{◌≡◌, refl, sym, ap, ◌∙◌, subst}
use mathlib.Core.List.{List}
use Prim.Native.Nat.{ℕ, ◌+◌, ◌%◌, ◌<◌, ◌≤◌}
use native.Mathlib.Nat.{not-suc-le-zero}
use native.Mathlib.Omega.{arith}
use lib.ListN.{length, replicate}
use Rattle.base_limits.specs.Limits as limits
use Rattle.surface_rules.specs.Smallest.{least}
use Rattle.surface_rules.specs.Edges.{twin}
use Rattle.surface_rules.proofs.Laws.Smallest.{at_not_nothing, least_none}
use Rattle.surface_twins.specs.Workings.Turns.{stops, Room, Turns}
use Rattle.surface_twins.specs.Workings.Chains.{TurnsBelow, Going}
use Rattle.surface_twins.proofs.Laws.Searches.{least_keeps}
use Rattle.surface_twins.proofs.Laws.Chaining.{chained_begins}
use Rattle.check_pairs.specs.Workings.Outcome.{Paired}
use Rattle.check_pairs.specs.Workings.Triangles.{TriangleRoom, TriangleDone}

-- the triangle whose first half-edge is i is next, if there is one
pub record Round (size : ℕ) (corners : List ℕ) (i : ℕ) (heads links ends table : List ℕ) : Type 0 where
  pub going : Going size corners i heads links ends table
  pub first : i % 3 ≡ 0
  pub within : i ≤ length corners

pub pairing_begins : {corners table : List ℕ} (size many : ℕ) → 0 < size → length corners ≤ many → Room corners table
    → Going size corners 0 (replicate size 0) (replicate many 0) (replicate many 0) table
unfolding TurnsBelow
pairing_begins {corners} size many some enough room =
    record { room = room; fresh = least_none (stops corners); chained = chained_begins size many corners some enough; turns = λ k l. absurd (not-suc-le-zero l) }

pub round_begins : {corners table : List ℕ} (size many : ℕ) → 0 < size → length corners ≤ many → Room corners table
    → Round size corners 0 (replicate size 0) (replicate many 0) (replicate many 0) table
round_begins size many some enough room = record { going = pairing_begins size many some enough room; first = refl; within = omega arith }

-- all half-edges are paired
pub all_paired : {size n : ℕ} {corners heads links ends table : List ℕ} → n ≡ length corners → Going size corners n heads links ends table → Paired corners None table
unfolding TurnsBelow Turns twin
all_paired {corners = corners} {table = table} e g = record {
  answer = sym (ap (least (stops corners)) (sym e) ∙ g.fresh);
  turns = λ q. subst (λ (z : ℕ). TurnsBelow corners z table) e g.turns;
}

module _ {size : ℕ} {corners : List ℕ} {i : ℕ} {heads links ends table : List ℕ} (round : Round size corners i heads links ends table) where
  pub round_room : i < length corners → TriangleRoom size corners i heads links ends table
  round_room l = record { going = round.going; edge = l; first = round.first }

  pub round_ends : length corners ≤ i → Paired corners None table
  round_ends l = all_paired (let w = round.within in omega arith) round.going

  module _ (more : i < length corners) where
    pub round_inside : i + 3 ≤ length corners
    round_inside =
        let a : i % 3 ≡ 0 = round.first in
        let b : length corners % 3 ≡ 0 = round.going.room.triples in
        omega arith

    pub round_fits : i + 3 ≤ limits.corners
    round_fits = let f = round.going.room.few in let l = round_inside in omega arith

    module _ {stop : Option ℕ} {heads' links' ends' table' : List ℕ} (d : TriangleDone size corners i stop heads' links' ends' table') where
      pub round_stops : {h : ℕ} {left : List ℕ} → stop ≡ Some h → Paired corners (Some h) left
      round_stops {h} e =
          record {
            answer = sym (least_keeps (stops corners) (i + 3) (length corners) h (sym d.answer ∙ e) round_inside);
            turns = λ q. absurd (at_not_nothing q);
          }

      pub round_more : stop ≡ None → Round size corners (i + 3) heads' links' ends' table'
      round_more e =
          let a : i % 3 ≡ 0 = round.first in
          record { going = d.going e; first = omega arith; within = round_inside }
