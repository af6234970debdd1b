-- The three half-edges of a triangle are paired one after the other, and the first that stops the pairing is the first of all.
use Rattle.std.specs.Prelude.{Some}
use mathlib.Core.Path.{◌≡◌, refl, sym, ap, ◌∙◌, subst}
use mathlib.Core.Bool.{Bool, true, false, or-true}
use mathlib.Core.List.{List}
use Prim.Native.Nat.{ℕ, ◌+◌, ◌*◌, ◌/◌, ◌%◌, ◌<◌}
use native.Mathlib.Omega.{arith}
use lib.ListN.{length, get_or}
use borrow.Author.Tests.{eq-eqb, not-false}
use Rattle.surface_rules.specs.Edges.{following, start_of, twice, repeats}
use Rattle.surface_rules.proofs.Laws.Smallest.{at_not_nothing, least_at}
use Rattle.surface_twins.specs.Workings.Turns.{stops}
use Rattle.surface_twins.specs.Workings.Chains.{Going, PairRoom, PairDone}
use Rattle.check_pairs.specs.Workings.Triangles.{alike, TriangleRoom, TriangleDone}

pub repeats_stops : (corners : List ℕ) (h : ℕ) → repeats corners h ≡ true → stops corners h ≡ true
unfolding stops
repeats_stops corners h e = rw e

pub twice_stops : (corners : List ℕ) (i : ℕ) → i % 3 ≡ 0 → twice corners (i / 3) ≡ true → stops corners i ≡ true
unfolding stops
twice_stops corners i f e = rw (eq-eqb (i % 3) 0 f, e, or-true)

-- ---- one half-edge after the other

module _ {size : ℕ} {corners : List ℕ} where
  -- half-edge g was paired, so the next one may be
  paired_on : {g h : ℕ} {d : Bool} {heads links ends table : List ℕ} → h ≡ g + 1 → PairDone size corners g d heads links ends table → d ≡ true → Going size corners h heads links ends table
  paired_on {heads = heads} {links = links} {ends = ends} {table = table} e p q = subst (λ (z : ℕ). Going size corners z heads links ends table) (sym e) (p.going q)

  module _ {i h : ℕ} {heads links ends table heads' links' ends' table' : List ℕ} (g : Going size corners h heads links ends table) (l : h < i + 3) where
    -- the pairing stops at h
    stops_at : stops corners h ≡ true → TriangleDone size corners i (Some h) heads' links' ends' table'
    stops_at s = record { answer = sym (least_at (stops corners) h (i + 3) g.fresh s l); going = λ e. absurd (at_not_nothing e) }

    pair_stops : {d : Bool} {heads₁ links₁ ends₁ table₁ : List ℕ} → PairDone size corners h d heads₁ links₁ ends₁ table₁ → d ≡ false → TriangleDone size corners i (Some h) heads' links' ends' table'
    pair_stops p q = stops_at (repeats_stops corners h (not-false _ (sym p.answer ∙ q)))

  module _ {i : ℕ} {d d' : Bool} {heads links ends table heads₁ links₁ ends₁ table₁ heads' links' ends' table' : List ℕ} where
    pub second_stops : PairDone size corners i d heads links ends table → d ≡ true → PairDone size corners (i + 1) d' heads₁ links₁ ends₁ table₁ → d' ≡ false
        → TriangleDone size corners i (Some (i + 1)) heads' links' ends' table'
    second_stops p q = pair_stops (paired_on refl p q) (omega arith)

    pub third_stops : PairDone size corners (i + 1) d heads links ends table → d ≡ true → PairDone size corners (i + 2) d' heads₁ links₁ ends₁ table₁ → d' ≡ false
        → TriangleDone size corners i (Some (i + 2)) heads' links' ends' table'
    third_stops p q = pair_stops (paired_on (omega arith) p q) (omega arith)

-- ---- the triangle

-- the triangle whose first half-edge is i lies on the surface, and names no point twice
pub record Proper (corners : List ℕ) (i : ℕ) : Type 0 where
  pub first : i % 3 ≡ 0
  pub inside : i + 2 < length corners
  pub proper : twice corners (i / 3) ≡ false

module _ {size : ℕ} {corners : List ℕ} {i : ℕ} {heads links ends table : List ℕ} (room : TriangleRoom size corners i heads links ends table) where
  module _ {t : Bool} (told : t ≡ alike (get_or corners i 0) (get_or corners (i + 1) 0) (get_or corners (i + 2) 0)) where
    -- what the three corners tell
    told_twice : twice corners (i / 3) ≡ t
    unfolding twice alike
    told_twice =
        let z : i % 3 ≡ 0 = room.first in
        let e : 3 * (i / 3) ≡ i = omega arith in
        rw e (sym told)

    pub triangle_twice : {heads' links' ends' table' : List ℕ} → t ≡ true → TriangleDone size corners i (Some i) heads' links' ends' table'
    triangle_twice q = stops_at room.going (omega arith) (twice_stops corners i room.first (told_twice ∙ q))

    pub triangle_proper : t ≡ false → Proper corners i
    triangle_proper q =
        let a : i < length corners = room.edge in
        let b : i % 3 ≡ 0 = room.first in
        let c : length corners % 3 ≡ 0 = room.going.room.triples in
        record { first = b; inside = omega arith; proper = told_twice ∙ q }

  pub first_stops : {d : Bool} {heads₁ links₁ ends₁ table₁ heads' links' ends' table' : List ℕ} → PairDone size corners i d heads₁ links₁ ends₁ table₁ → d ≡ false
      → TriangleDone size corners i (Some i) heads' links' ends' table'
  first_stops = pair_stops room.going (omega arith)

  pub first_room : Proper corners i → PairRoom size corners i (i + 1) (get_or corners i 0) (get_or corners (i + 1) 0) heads links ends table
  unfolding following
  first_room s =
      let z = s.first in
      let f : i + 1 ≡ following i = omega arith in
      record { going = room.going; edge = room.edge; proper = s.proper; follows = f; start = refl; end = ap (start_of corners) f }

module _ {size : ℕ} {corners : List ℕ} {i : ℕ} {d : Bool} {heads links ends table : List ℕ} (s : Proper corners i) where
  pub second_room : PairDone size corners i d heads links ends table → d ≡ true
      → PairRoom size corners (i + 1) (i + 2) (get_or corners (i + 1) 0) (get_or corners (i + 2) 0) heads links ends table
  unfolding following
  second_room p q =
      let z = s.first in
      let l = s.inside in
      let f : i + 2 ≡ following (i + 1) = omega arith in
      let t : (i + 1) / 3 ≡ i / 3 = omega arith in
      record { going = paired_on refl p q; edge = omega arith; proper = ap (twice corners) t ∙ s.proper; follows = f; start = refl; end = ap (start_of corners) f }

  pub third_room : PairDone size corners (i + 1) d heads links ends table → d ≡ true
      → PairRoom size corners (i + 2) i (get_or corners (i + 2) 0) (get_or corners i 0) heads links ends table
  unfolding following
  third_room p q =
      let z = s.first in
      let f : i ≡ following (i + 2) = omega arith in
      let t : (i + 2) / 3 ≡ i / 3 = omega arith in
      record { going = paired_on (omega arith) p q; edge = s.inside; proper = ap (twice corners) t ∙ s.proper; follows = f; start = refl; end = ap (start_of corners) f }
