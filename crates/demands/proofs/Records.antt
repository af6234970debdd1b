-- The demand of the records is kept by every outcome of the patcher that is no refusal.
use mathlib.Core.Path.{◌≡◌, refl, sym, ap, ◌∙◌}
use mathlib.Core.Bool.{true, false}
use mathlib.Core.List.{List, []}
use Prim.Native.Nat.{ℕ, ◌*◌, ◌<◌}
use native.Mathlib.Omega.{arith}
use lib.IntN.{ℤ}
use lib.ListN.{length, get_or}
use Rattle.base_answers.specs.Numbers.{refusing}
use Rattle.surface_rules.specs.Edges.{Sound, start_of, end_of}
use Rattle.surface_rules.proofs.Laws.Lists.{map_at}
use Rattle.loop_rules.specs.Loops.{loops, ring}
use Rattle.loop_rules.proofs.Laws.Linked.{closed_next}
use Rattle.loop_rules.proofs.Theorems.{three_or_more, loop_closes}
use Rattle.survey_grid.specs.Grid.{grid_of}
use Rattle.rim_rules.specs.Rims.{loop_at, is_rim, rim_list}
use Rattle.rim_rules.proofs.Theorems.{edge_piece}
use Rattle.fill_fates.specs.Fates.{Fate, patched, long, uncovered, rim, state_of, weighs}
use Rattle.fill_fates.specs.Course.{Course, ring_list}
use Rattle.patch_records.specs.declared.Record.{Record}
use Rattle.patch_records.specs.Records.{numbers, fate_at, record_of, records_of}
use Rattle.patch_records.proofs.Laws.Sevens.{sevens_length}
use Rattle.patch_records.proofs.Laws.Laying.{past_at}
use Rattle.patch_surface.specs.Outcome as patcher
use Rattle.demands.specs.Records.{left_of, RecordsDemand}
use Rattle.demands.specs.Sets.{states_left}
use Rattle.demands.proofs.Sets.{refuses, done_sound, record_left, state_left, done_demand, patch_done}

-- what has the state of a rim weighs nothing
four_weighs : (grid : List ℤ) (ring : List ℕ) (f : Fate) → state_of f ≡ 4 → weighs grid ring f ≡ 0
four_weighs grid ring (patched c) e = absurd (omega arith)
four_weighs grid ring long e = refl
four_weighs grid ring uncovered e = refl
four_weighs grid ring rim e = refl

-- so many numbers all records have
records_length : (grid : List ℤ) (corners : List ℕ) (fates : List Fate) → length (records_of grid corners fates) ≡ 7 * length (loops corners)
unfolding records_of
records_length grid corners fates = sevens_length (λ (l : ℕ). numbers (record_of grid corners fates l)) (λ l. refl) (length (loops corners))

module _ (pitch : ℕ) (words corners : List ℕ) (b : patcher.Buffers) (o : patcher.Outcome) where
  module _ (r : refusing (refuses pitch words corners b o) ≡ false) (fates : List Fate) (course : Course (grid_of pitch words) corners [] (rim_list (grid_of pitch words) corners) (ring_list corners) fates)
      (e : o ≡ patcher.done pitch words corners fates b) where
    sound : Sound corners
    sound = done_sound pitch words corners b o r fates course e

    loops_are : o.loops ≡ length (loops corners)
    loops_are = ap (λ (x : patcher.Outcome). x.loops) e

    module _ (l : ℕ) (h : l < o.loops) where
      loop_in : l < length (loops corners)
      loop_in = omega (arith, loops_are)

      -- it has a first edge and a second
      second_in : 1 < length (loop_at corners l)
      second_in = omega (arith, three_or_more corners sound l loop_in)

      record_is : left_of o l ≡ record_of (grid_of pitch words) corners fates l
      record_is = record_left pitch words corners b o r fates course e l loop_in

      first_is : (left_of o l).first ≡ get_or (loop_at corners l) 0 0
      first_is = ap (λ (x : Record). x.first) record_is

      starts_is : start_of corners (left_of o l).first ≡ get_or (ring corners (loop_at corners l)) 0 0
      starts_is = ap (start_of corners) first_is ∙ sym (map_at (start_of corners) 0 0 (loop_at corners l) 0 (omega (arith, second_in)))

      ends_is : end_of corners (left_of o l).first ≡ get_or (ring corners (loop_at corners l)) 1 0
      ends_is =
          ap (end_of corners) first_is
          ∙ closed_next corners (loop_at corners l) (loop_closes corners sound l loop_in) 0 second_in
          ∙ sym (map_at (start_of corners) 0 0 (loop_at corners l) 1 second_in)

      -- its state is the one that the set is judged by
      state_is : get_or (states_left o) l 0 ≡ (left_of o l).state
      state_is = state_left pitch words corners b o r fates course e l h

      rim_four : is_rim (grid_of pitch words) corners l ≡ true → (left_of o l).state ≡ 4
      rim_four m = sym state_is ∙ (done_demand pitch words corners b o r fates course e).closes.rims_declared l loop_in m

      four_rim : (left_of o l).state ≡ 4 → is_rim (grid_of pitch words) corners l ≡ true
      four_rim s = (done_demand pitch words corners b o r fates course e).closes.only_rims l loop_in (state_is ∙ s)

      four_none : (left_of o l).state ≡ 4 → (left_of o l).weight ≡ 0
      four_none s =
          ap (λ (x : Record). x.weight) record_is
          ∙ four_weighs (grid_of pitch words) (ring corners (loop_at corners l)) (fate_at fates l) (sym (ap (λ (x : Record). x.state) record_is) ∙ s)

    records_done : RecordsDemand pitch words corners b o
    records_done = record {
      fates = fates;
      course = course;
      kept = record_is;
      at_first = first_is;
      starts = starts_is;
      ends = ends_is;
      all_along = λ l i h k. edge_piece (grid_of pitch words) corners sound l i (loop_in l h) k ∙ sym (ap (λ (x : Record). x.piece) (record_is l h));
      rims_four = λ l h m. (rim_four l h m, four_none l h (rim_four l h m));
      only_rims = four_rim;
      behind = λ i h.
          ap (λ (x : patcher.Outcome). get_or x.left.records i 0) e
          ∙ past_at (records_of (grid_of pitch words) corners fates) b.records i (omega (arith, loops_are, records_length (grid_of pitch words) corners fates));
    }

  pub records_demand : patcher.Patches pitch words corners b o → refusing o.answer ≡ false → RecordsDemand pitch words corners b o
  records_demand h n = let (r, (fates, course, e)) = patch_done pitch words corners b o h n in records_done r fates course e
