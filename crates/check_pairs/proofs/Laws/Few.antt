-- Few corners are paired half-edge after half-edge, as far as no triangle names a point twice; the first that does stops the pairing if nothing did before.
use Rattle.std.specs.Prelude.{Some, None}
use mathlib.Core.Path.{◌≡◌, refl, sym, ap, ◌∙◌}
use mathlib.Core.Bool.{Bool, true, false}
use mathlib.Core.List.{List}
use Prim.Native.Nat.{ℕ, ◌+◌, ◌*◌, ◌/◌, ◌%◌, ◌<◌, ◌≤◌}
use native.Mathlib.Omega.{arith}
use lib.ListN.{length, replicate}
use borrow.Author.Tests.{not-false}
use Rattle.base_limits.specs.Limits as limits
use Rattle.surface_rules.specs.Smallest.{least}
use Rattle.surface_rules.specs.Edges.{following, twice}
use Rattle.surface_rules.proofs.Laws.Smallest.{at_not_nothing, least_at, least_never, least_sound, least_first}
use Rattle.surface_rules.proofs.Laws.Edges.{following_below}
use Rattle.surface_twins.specs.Workings.Turns.{stops, Room}
use Rattle.surface_twins.specs.Workings.Chains.{Going, PairDone}
use Rattle.check_pairs.specs.Workings.Outcome.{Paired}
use Rattle.check_pairs.specs.Workings.Triangles.{few_corners, few_buckets, ProperTo, AfterRoom}
use Rattle.check_pairs.proofs.Laws.Triangles.{repeats_stops, twice_stops}
use Rattle.check_pairs.proofs.Laws.Rounds.{pairing_begins, all_paired}

-- ---- as far as no triangle names a point twice

module _ (corners : List ℕ) (triples : length corners % 3 ≡ 0) where
  pub proper_all : least (twice corners) (length corners / 3) ≡ None → ProperTo corners (length corners)
  proper_all e =
      record {
        within = omega arith;
        first = triples;
        proper = λ t l. least_never (twice corners) (length corners / 3) e t (omega arith);
        there = λ l. absurd (omega arith);
      }

  pub proper_below : (t : ℕ) → least (twice corners) (length corners / 3) ≡ Some t → ProperTo corners (3 * t)
  proper_below t e =
      let s = least_sound (twice corners) (length corners / 3) t e in
      let b : t < length corners / 3 = s.0 in
      let q : 3 * t / 3 ≡ t = omega arith in
      record {
        within = omega arith;
        first = omega arith;
        proper = λ k l. least_first (twice corners) (length corners / 3) t e k (omega arith);
        there = λ l. ap (twice corners) q ∙ s.1;
      }

  pub proper_fits : (t : ℕ) → least (twice corners) (length corners / 3) ≡ Some t → 3 * t < length corners
  proper_fits t e = let b : t < length corners / 3 = (least_sound (twice corners) (length corners / 3) t e).0 in omega arith

-- ---- the half-edge after h

pub after_last : (h i : ℕ) → AfterRoom h i → h ≡ i + 2 → i ≡ following h
unfolding following
after_last h i room e = let z : i % 3 ≡ 0 = room.first in omega arith

pub after_other : (h i : ℕ) → AfterRoom h i → (h ≡ i + 2 → ⊥) → h + 1 ≡ following h
unfolding following
after_other h i room n =
    let z : i % 3 ≡ 0 = room.first in
    let a : i ≤ h = room.from in
    let b : h < i + 3 = room.to in
    let c : h < i + 2 = below a b in
    omega arith
  where
    below : i ≤ h → h < i + 3 → h < i + 2
    below a b = omega (arith, n)

-- ---- the rounds

-- half-edge h, of the triangle whose first is i, is next, if there is one before `end`
pub record Side (corners : List ℕ) (end i h : ℕ) (heads links ends table : List ℕ) : Type 0 where
  pub going : Going few_buckets corners h heads links ends table
  pub proper : ProperTo corners end
  pub first : i % 3 ≡ 0
  pub from : i ≤ h
  pub to : h < i + 3
  pub within : h ≤ end

pub side_begins : {corners table : List ℕ} {end : ℕ} → Room corners table × (length corners ≤ few_corners) → ProperTo corners end
    → Side corners end 0 0 (replicate few_buckets 0) (replicate few_corners 0) (replicate few_corners 0) table
side_begins room proper =
    record {
      going = pairing_begins few_buckets few_corners (omega arith) room.1 room.0;
      proper = proper;
      first = refl;
      from = omega arith;
      to = omega arith;
      within = omega arith;
    }

module _ {corners : List ℕ} {end i h : ℕ} {heads links ends table : List ℕ} (side : Side corners end i h heads links ends table) where
  -- the pairing stopped at k
  stopped : {k : ℕ} {left : List ℕ} → least (stops corners) k ≡ None → stops corners k ≡ true → k < length corners → Paired corners (Some k) left
  stopped {k} f s l = record { answer = sym (least_at (stops corners) k (length corners) f s l); turns = λ q. absurd (at_not_nothing q) }

  -- the pairing came to a triangle that names a point twice
  pub side_twice : {left : List ℕ} → end ≤ h → end < length corners → Paired corners (Some end) left
  side_twice l more =
      let w : h ≤ end = side.within in
      let e : h ≡ end = omega arith in
      stopped (ap (least (stops corners)) (sym e) ∙ side.going.fresh) (twice_stops corners end side.proper.first (side.proper.there more)) more

  -- or to the end
  pub side_ends : end ≤ h → length corners ≤ end → Paired corners None table
  side_ends l all = all_paired (let w = side.within in let p = side.proper.within in omega arith) side.going

  module _ (more : h < end) where
    pub side_inside : h < length corners
    side_inside = let p : end ≤ length corners = side.proper.within in omega arith

    pub side_fits : h < limits.corners
    side_fits = let f = side.going.room.few in let l = side_inside in omega arith

    module _ {f : ℕ} (e : f ≡ following h) where
      pub side_there : f < length corners
      side_there = rw e (following_below (length corners) h side.going.room.triples side_inside)

      module _ {d : Bool} {heads' links' ends' table' : List ℕ} (p : PairDone few_buckets corners h d heads' links' ends' table') where
        pub side_stops : {left : List ℕ} → d ≡ false → Paired corners (Some h) left
        side_stops q = stopped side.going.fresh (repeats_stops corners h (not-false _ (sym p.answer ∙ q))) side_inside

        -- the next half-edge is of the next triangle
        pub side_next : d ≡ true → f ≡ i → Side corners end (i + 3) (h + 1) heads' links' ends' table'
        unfolding following
        side_next q r =
            let z : i % 3 ≡ 0 = side.first in
            let a : i ≤ h = side.from in
            let b : h < i + 3 = side.to in
            let c : i ≡ following h = sym r ∙ e in
            let g : h + 1 ≡ i + 3 = omega arith in
            record { going = p.going q; proper = side.proper; first = omega arith; from = omega arith; to = omega arith; within = omega arith }

        -- or of the same
        pub side_same : d ≡ true → (f ≡ i → ⊥) → Side corners end i (h + 1) heads' links' ends' table'
        unfolding following
        side_same q n =
            let z : i % 3 ≡ 0 = side.first in
            let a : i ≤ h = side.from in
            let b : h < i + 3 = side.to in
            let g : h + 1 < i + 3 = below a b z in
            record { going = p.going q; proper = side.proper; first = z; from = omega arith; to = g; within = omega arith }
          where
            below : i ≤ h → h < i + 3 → i % 3 ≡ 0 → h + 1 < i + 3
            below a b z = omega (arith, n, e)
