-- The ring of a loop stands where the loop's place says.
use mathlib.Core.Path.{◌≡◌, sym, ◌∙◌, subst}
use mathlib.Core.List.{List, []}
use Prim.Native.Nat.{ℕ, ◌+◌, ◌-◌, ◌<◌, ◌≤◌}
use native.Mathlib.Omega.{arith}
use lib.IntN.{ℤ}
use lib.ListN.{length, get_or, take, drop, length-map, get_or-map}
use Rattle.base_limits.specs.Limits as limits
use Rattle.loop_rules.specs.Loops.{loops, ring}
use Rattle.fill_fates.specs.Course.{ring_list}
use Rattle.fill_scratch.specs.Workings.Rings.{RingOf, RingPlace}
use Rattle.fill_scratch.proofs.Laws.Reading.{as_many, ring_at_lem, places_of}
use Rattle.chart_rules.specs.Report.{ring_at}
use Rattle.chart_lay.specs.Workings.Coast.{Coast}
use Rattle.chart_lay.specs.Workings.Stamping.{Inside}
use Rattle.chart_lay.specs.Workings.Others.{Chained}

-- the part of the rings that is loop l's
abbrev pub part_of : Coast → ℕ → List ℕ
part_of coast l = take (get_or coast.starts l 0 + get_or coast.lengths l 0 - get_or coast.starts l 0) (drop (get_or coast.starts l 0) coast.rings)

module _ {grid : List ℤ} {corners : List ℕ} {coast : Coast} (c : Chained grid corners coast) {l : ℕ} (h : l < length (loops corners)) where
  as_rings : length (ring_list corners) ≡ length (loops corners)
  as_rings = length-map (loops corners) (ring corners)

  ring_is : get_or (ring_list corners) l [] ≡ ring_at corners l
  ring_is = get_or-map (ring corners) (loops corners) l []

  pub ring_place : RingPlace coast.rings coast.lengths l (get_or coast.starts l 0)
  ring_place = places_of grid corners (ring_list corners) coast.rings coast.lengths c.listed c.few l (get_or coast.starts l 0)
      (let a = as_many grid corners (ring_list corners) coast.rings coast.lengths c.listed in let b = as_rings in omega arith) (c.starts_are l h)

  pub length_in : l < length coast.lengths
  length_in = let a = as_many grid corners (ring_list corners) coast.rings coast.lengths c.listed in let b = as_rings in omega arith

  pub start_in : l < length coast.starts
  start_in = let a = c.starts_long in omega arith

  pub link_in : l < length coast.links
  link_in = let a = c.links_long in omega arith

  pub loop_few : l < limits.triangles
  loop_few = let a = c.listed.few_loops in let b = as_rings in omega arith

  pub part_is : part_of coast l ≡ ring_at corners l
  part_is = ring_at_lem grid corners (ring_list corners) coast.rings coast.lengths c.listed l (get_or coast.starts l 0) (let b = as_rings in omega arith) (c.starts_are l h) ∙ ring_is

  pub ring_inside : (stamps : List ℕ) → limits.points ≤ length stamps → Inside (ring_at corners l) stamps
  ring_inside stamps long i k =
      let o : RingOf grid corners (ring_at corners l) = subst (RingOf grid corners) ring_is (c.listed.each l (let b = as_rings in omega arith)) in
      let a = o.inside i k in
      omega arith

  pub part_inside : (stamps : List ℕ) → limits.points ≤ length stamps → Inside (part_of coast l) stamps
  part_inside stamps long = subst (λ (x : List ℕ). Inside x stamps) (sym part_is) (ring_inside stamps long)
