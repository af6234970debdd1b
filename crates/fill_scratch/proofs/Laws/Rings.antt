-- The loops of a surface that passed the checks are loops as the course takes them: each has three or more different points on the grid, and
-- the half-edges that it is made of join each of them to the next.
use mathlib.Core.Path.{◌≡◌, refl, sym, ◌∙◌, subst}
use mathlib.Core.Bool.{Bool, true, false, ◌&&◌, true≢false}
use mathlib.Core.List.{List, [], ◌∷◌, map}
use mathlib.Core.Logic.{⊎_elim}
use Prim.Native.Nat.{ℕ, suc, ◌-◌, ◌/◌, ◌<◌, ◌≤◌}
use native.Mathlib.Numerals.{add-one}
use native.Mathlib.Omega.{arith}
use borrow.Author.Tests.{ltb-false, not-false}
use lib.IntN.{pos, nat_abs}
use lib.Ieee.{binary32, of_bits}
use lib.Ieee.Scale.{finite}
use lib.Dec.{ltb}
use lib.ListN.{length, get_or, length-map, get_or-map, get_or-eq_default}
use Rattle.base_limits.specs.Limits as limits
use Rattle.grid_coordinate.specs.Units.{units}
use Rattle.grid_coordinate.specs.Places.{whole}
use Rattle.surface_rules.specs.Edges.{start_of, end_of}
use Rattle.surface_rules.specs.Refusals.{not_finite, too_far}
use Rattle.surface_rules.proofs.Laws.Tests.{lt_or_le}
use Rattle.surface_rules.proofs.Laws.Lists.{map_at}
use Rattle.surface_rules.proofs.Laws.Smallest.{least_never, index_any}
use Rattle.surface_rules.proofs.Laws.Edges.{goes_from}
use Rattle.loop_rules.specs.Loops.{loops, ring}
use Rattle.loop_rules.proofs.Laws.Distinct.{Distinct}
use Rattle.loop_rules.proofs.Laws.Linked.{Closed, closed_next}
use Rattle.loop_rules.proofs.Theorems.{three_or_more, no_vertex_twice, loop_closes, one_loop, vertices_in_all, vertices_few, loops_third}
use Rattle.loop_cut.specs.Listing.{rings_of}
use Rattle.check_words.specs.Workings.OnGrid.{OnGrid}
use Rattle.survey_grid.specs.Grid.{whole_of, grid_of}
use Rattle.check_surface.specs.Workings.Checks.{Woven}
use Rattle.cover_weight.specs.Weight.{Coordinate, Coordinates}
use Rattle.cover_bars.specs.Bars.{edge, between}
use Rattle.cover_bars.proofs.Laws.Tests.{or_left}
use Rattle.fill_fates.specs.Course.{ring_list}
use Rattle.fill_scratch.specs.Workings.Rings.{RingOf, Loops}

-- a ring is as long as its loop
lengths_kept : (corners : List ℕ) (ls : List (List ℕ)) → map length ls ≡ map length (map (ring corners) ls)
lengths_kept corners [] = refl
lengths_kept corners (l ∷ ls) = rw (length-map l (start_of corners), lengths_kept corners ls)

-- ---- a word that is finite and not too far lies on the grid

second_false : (s t : Bool) → s ≡ true → (s && t) ≡ false → t ≡ false
second_false true t e h = h
second_false false t e h = absurd (true≢false (sym e))

word_near : (pitch : ℕ) (words : List ℕ) → OnGrid pitch words → (j : ℕ) → j < length words → Coordinate (whole_of pitch (get_or words j 0))
unfolding not_finite too_far whole_of
word_near pitch words on j l =
    let x = of_bits binary32 (get_or words j 0) in
    ltb-false _ _
    (second_false (finite x) (ltb limits.greatest (nat_abs (whole pitch (units x))))
    (not-false _ (least_never (not_finite words) (length words) on.numbers j l)) (least_never (too_far pitch words) (length words) on.near j l))

pub coordinates_of : (pitch : ℕ) (words : List ℕ) → OnGrid pitch words → Coordinates (grid_of pitch words)
coordinates_of pitch words on j =
    ⊎_elim (λ l. subst Coordinate (sym (map_at (whole_of pitch) 0 (pos 0) words j l)) (word_near pitch words on j l))
    (λ m.
    let n : length (grid_of pitch words) ≤ j = omega (arith, length-map words (whole_of pitch)) in
    let z : 0 ≤ limits.greatest = omega arith in
    subst Coordinate (sym (get_or-eq_default (grid_of pitch words) (pos 0) n)) z)
    (lt_or_le j (length words))

-- ---- a half-edge of the input is an edge between its ends

joined : (corners : List ℕ) (u v e : ℕ) → e < length corners → start_of corners e ≡ u → end_of corners e ≡ v → between corners u v ≡ true
unfolding between edge
joined corners u v e l s t = or_left _ _ (index_any _ (length corners) e l (goes_from corners u v e (record { starts = s; ends = t })))

-- ---- the ring of one loop

module _ (pitch : ℕ) (words corners table : List ℕ) (woven : Woven corners (length words / 3) table) (on : OnGrid pitch words) (few_words : length words ≤ limits.words) (l : ℕ) (below : l < length (loops corners)) where
  abbrev loop : List ℕ
  loop = get_or (loops corners) l []

  long : length (ring corners loop) ≡ length loop
  long = length-map loop (start_of corners)

  at : (j : ℕ) → j < length loop → get_or (ring corners loop) j 0 ≡ start_of corners (get_or loop j 0)
  at j k = map_at (start_of corners) 0 0 loop j k

  edge_in : (j : ℕ) → j < length loop → get_or loop j 0 < length corners
  edge_in j k = ((one_loop corners woven.sound).nothing_else (get_or loop j 0) (record { loop = l; loop_below = below; at = j; at_below = k; is = refl })).0

  closed : Closed corners loop
  closed = loop_closes corners woven.sound l below

  three : 3 ≤ length loop
  three = three_or_more corners woven.sound l below

  point : (j : ℕ) → j < length (ring corners loop) → get_or (ring corners loop) j 0 < length words / 3
  point j k =
      let m : j < length loop = omega (arith, long) in
      subst (λ (v : ℕ). v < length words / 3) (sym (at j m)) (woven.named (get_or loop j 0) (edge_in j m))

  side : (j : ℕ) → suc j < length loop → between corners (get_or (ring corners loop) j 0) (get_or (ring corners loop) (suc j) 0) ≡ true
  side j k = joined corners _ _ (get_or loop j 0) (edge_in j (omega arith)) (sym (at j (omega arith))) (closed_next corners loop closed j k ∙ sym (at (suc j) k))

  closing_side : (j : ℕ) → suc j ≡ length loop → between corners (get_or (ring corners loop) j 0) (get_or (ring corners loop) 0 0) ≡ true
  closing_side j k =
      joined corners _ _ (get_or loop j 0) (edge_in j (omega arith)) (sym (at j (omega arith))) (closed.closes j k ∙ sym (at 0 (omega (arith, three))))

  apart_of : (i j : ℕ) → i < length (ring corners loop) → j < length (ring corners loop) → get_or (ring corners loop) i 0 ≡ get_or (ring corners loop) j 0 → i ≡ j
  unfolding Distinct
  apart_of = no_vertex_twice corners woven.sound l below

  ring_of : RingOf (grid_of pitch words) corners (ring corners loop)
  ring_of =
      record {
        coordinates = coordinates_of pitch words on;
        named = λ j k. let p : get_or (ring corners loop) j 0 < length words / 3 = point j k in omega (arith, length-map words (whole_of pitch));
        inside = λ j k. let p : get_or (ring corners loop) j 0 < length words / 3 = point j k in omega arith;
        three = omega (arith, long, three);
        apart = apart_of;
        sides = λ j k. subst (λ (i : ℕ). between corners (get_or (ring corners loop) j 0) (get_or (ring corners loop) i 0) ≡ true) (sym (add-one j)) (side j (omega (arith, long)));
        closing = closing_side (length (ring corners loop) - 1) (omega (arith, long, three));
      }

-- ---- all loops

pub loops_of_lem : (pitch : ℕ) (words corners table : List ℕ) → Woven corners (length words / 3) table → OnGrid pitch words → length words ≤ limits.words → length corners ≤ limits.corners
    → Loops (grid_of pitch words) corners (ring_list corners) (rings_of corners (loops corners)) (map length (loops corners))
unfolding rings_of
loops_of_lem pitch words corners table woven on few_words few_corners =
    let n : length (ring_list corners) ≡ length (loops corners) = length-map (loops corners) (ring corners) in
    record {
      rings_are = refl;
      lengths_are = lengths_kept corners (loops corners);
      each = λ l k. subst (RingOf (grid_of pitch words) corners) (sym (get_or-map (ring corners) (loops corners) l [])) (ring_of pitch words corners table woven on few_words l (omega arith));
      few = omega (arith, vertices_in_all corners woven.sound, vertices_few corners woven.sound);
      few_loops = omega (arith, n, loops_third corners woven.sound);
    }
