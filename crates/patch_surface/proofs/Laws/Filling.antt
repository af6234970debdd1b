-- From the loops that were found, by the course and the columns, to what is left of them: the records of all and their patches.
use mathlib.Core.Path.{◌≡◌, refl, sym, ap, ◌∙◌}
use mathlib.Core.List.{List, [], ◌∷◌, map, flatten}
use Prim.Native.Nat.{ℕ, zero, suc, ◌+◌, ◌*◌, ◌/◌, ◌≤◌, ◌<◌}
use native.Mathlib.Nat.{not-suc-le-zero, le_of_suc-le-suc}
use native.Mathlib.Omega.{arith}
use lib.IntN.{ℤ}
use lib.ListN.{length, get_or, length-map}
use Rattle.surface_rules.specs.Buffers.{over}
use Rattle.surface_rules.specs.Edges.{start_of}
use Rattle.surface_rules.proofs.Laws.Lists.{map_at}
use Rattle.surface_rules.proofs.Laws.Over.{front_at}
use Rattle.loop_rules.specs.Loops.{loops, ring}
use Rattle.loop_cut.specs.Listing.{rings_of}
use Rattle.survey_rules.proofs.Laws.Known.{Known, rings_few, loops_few}
use Rattle.fill_fates.specs.Fates.{Fate, rim, state_of, weighs}
use Rattle.fill_fates.specs.Course.{ring_list, weights_of}
use Rattle.fill_fates.proofs.Laws.Grows.{course_length}
use Rattle.fill_fates.proofs.Laws.Lengths.{states_length, weights_length}
use Rattle.fill_scratch.proofs.Laws.Reading.{as_many}
use Rattle.rim_rules.specs.Rims.{loop_at, rim_list}
use Rattle.rim_mark.proofs.Laws.Marks.{rims_many}
use Rattle.rim_mark.proofs.Laws.Listed.{input_here, as_many_loops}
use Rattle.patch_all.specs.Workings.Courses.{docket, Lent, RanAll}
use Rattle.patch_records.specs.Records.{numbers, record_of, records_of, fate_at}
use Rattle.patch_records.specs.Workings.Columns.{Columns, columns, row_of, rows, laid_records, LayRoom}
use Rattle.patch_records.proofs.Laws.Sevens.{listed_same}
use Rattle.patch_records.proofs.Laws.Laying.{rows_length}
use Rattle.patch_surface.specs.Workings.Filling.{FoundLoops, FillRoom, Fills}
use Rattle.patch_surface.specs.Workings.Weighing.{weighing, weights_in, WeighRoom, Weighs}
use Rattle.patch_surface.proofs.Laws.Checking.{known}
use Rattle.patch_surface.proofs.Laws.Weighing.{part_long, weights_hidden, weight_at, laid_long}

-- the weight of loop l among those of all
weights_at : (grid : List ℤ) (rings : List (List ℕ)) (fates : List Fate) (l : ℕ) → length fates ≡ length rings → l < length rings
    → get_or (weights_of grid rings fates) l 0 ≡ weighs grid (get_or rings l []) (fate_at fates l)
weights_at grid [] fates l e h = absurd (not-suc-le-zero h)
weights_at grid (r ∷ rings) [] l e h = absurd (omega arith)
weights_at grid (r ∷ rings) (f ∷ fates) zero e h = refl
weights_at grid (r ∷ rings) (f ∷ fates) (suc l) e h = weights_at grid rings fates l (omega arith) (le_of_suc-le-suc h)

module _ {grid : List ℤ} {corners rings : List ℕ} {c : Columns} (f : FoundLoops grid corners rings c) where
  known_here : Known f.pitch f.words corners f.turns
  known_here = known f.checked

  -- as many loops as rings and as lengths
  many_rings : length (ring_list corners) ≡ length (loops corners)
  many_rings = as_many_loops known_here

  many : length c.lengths ≡ length (loops corners)
  many = as_many grid corners (ring_list corners) rings c.lengths f.listed ∙ many_rings

  few_loops : length (loops corners) ≤ length corners / 3
  few_loops = loops_few known_here

  module _ {records patches : List ℕ} (room : FillRoom corners c records patches) where
    -- there is room for a weight of each loop in the last seventh of the records
    records_room : 7 * length c.lengths ≤ length records
    records_room = let r = room.records_long in omega (arith, many, few_loops)

    the_lent : Lent (rim_list grid corners) (ring_list corners) (docket c.states (weights_in (length c.lengths) records) patches)
    unfolding rings_of
    the_lent =
        let v : length (flatten (ring_list corners)) ≤ length corners = rings_few known_here in
        let p = room.patches_long in
        let s = f.marked.long in
        let w = part_long (length c.lengths) records records_room in
        let k = rims_many grid corners in
        record { rims_many = k ∙ sym many_rings; marked = f.marked; states_room = omega (arith, many_rings); weights_room = omega (arith, many, many_rings); patches_room = omega arith }

    pub weigh_room : WeighRoom grid corners rings c.lengths c.states records patches
    weigh_room = record {
      course = record { rims = rim_list grid corners; rs = ring_list corners; loops = f.listed; lent = the_lent; corners = input_here known_here };
      room = records_room;
      few = omega (arith, many, few_loops, known_here.fits.few_corners);
    }

    module _ {p : ℕ} {states' records' patches' : List ℕ} (w : Weighs grid corners rings c.lengths (weighing c.states records patches) p (weighing states' records' patches')) where
      abbrev cols : Columns
      cols = columns c.lengths states' c.firsts c.pieces c.runs

      q : RanAll grid corners (rim_list grid corners) (ring_list corners) (docket c.states (weights_in (length c.lengths) records) patches) p (docket states' w.weights patches')
      q = w.course (rim_list grid corners) (ring_list corners) f.listed the_lent

      -- as many fates as rings and as loops
      many_fates : length q.fates ≡ length (ring_list corners)
      many_fates = course_length grid corners [] (rim_list grid corners) (ring_list corners) q.fates q.course

      fated : length q.fates ≡ length (loops corners)
      fated = many_fates ∙ many_rings

      pub lay_room : length states' ≡ length c.states → LayRoom cols records'
      lay_room e = record {
        states_long = let s = room.states_long in omega (arith, many, few_loops);
        firsts_long = let s = room.firsts_long in omega (arith, many, few_loops);
        pieces_long = let s = room.pieces_long in omega (arith, many, few_loops);
        runs_long = let s = room.runs_long in omega (arith, many, few_loops);
        room = omega (arith, ap length w.stand, laid_long (length c.lengths) records w.weights w.as_many records_room, records_room);
        few = weigh_room.few;
      }

      -- each number of each record is the fact
      module _ (l : ℕ) (h : l < length (loops corners)) where
        ring_is : get_or (ring_list corners) l [] ≡ ring corners (loop_at corners l)
        ring_is = map_at (ring corners) [] [] (loops corners) l h

        length_is : get_or c.lengths l 0 ≡ length (loop_at corners l)
        length_is =
            ap (λ (x : List ℕ). get_or x l 0) f.listed.lengths_are
            ∙ map_at length [] 0 (ring_list corners) l (omega (arith, many_rings))
            ∙ ap length ring_is
            ∙ length-map (loop_at corners l) (start_of corners)

        state_is : get_or states' l 0 ≡ state_of (fate_at q.fates l)
        state_is =
            ap (λ (x : List ℕ). get_or x l 0) q.states_are
            ∙ front_at (map state_of q.fates) c.states l 0 (omega (arith, states_length q.fates, fated))
            ∙ map_at state_of rim 0 q.fates l (omega (arith, fated))

        weight_is : get_or records' (6 * length c.lengths + l) 0 ≡ weighs grid (ring corners (loop_at corners l)) (fate_at q.fates l)
        weight_is =
            ap (λ (x : List ℕ). get_or x (6 * length c.lengths + l) 0) w.stand
            ∙ weight_at (length c.lengths) records w.weights w.as_many records_room l (omega (arith, many))
            ∙ ap (λ (x : List ℕ). get_or x l 0) q.weights_are
            ∙ front_at (weights_of grid (ring_list corners) q.fates) (weights_in (length c.lengths) records) l 0 (omega (arith, fated, weights_length grid (ring_list corners) q.fates many_fates))
            ∙ weights_at grid (ring_list corners) q.fates l many_fates (omega (arith, many_rings))
            ∙ ap (λ (x : List ℕ). weighs grid x (fate_at q.fates l)) ring_is

        row_is : numbers (row_of cols records' l) ≡ numbers (record_of grid corners q.fates l)
        row_is = λ t. length_is t ∷ state_is t ∷ weight_is t ∷ 0 ∷ f.firsts_are l h t ∷ f.pieces_are l h t ∷ f.runs_are l h t ∷ []

      rows_are : laid_records cols records' ≡ records_of grid corners q.fates
      unfolding rows records_of
      rows_are =
          ap (rows cols records') many
          ∙ listed_same (λ (l : ℕ). numbers (row_of cols records' l)) (λ (l : ℕ). numbers (record_of grid corners q.fates l)) (length (loops corners)) row_is

      -- The records are laid over those as they were, since the weights lie where records are laid.
      pub fills : {records'' : List ℕ} → records'' ≡ over (laid_records cols records') records' → Fills grid corners records patches p records'' patches'
      fills e = record {
        fates = q.fates;
        course = q.course;
        count = q.count;
        records_are =
            e
            ∙ ap (over (laid_records cols records')) w.stand
            ∙ weights_hidden (length c.lengths) records w.weights w.as_many records_room (laid_records cols records') (rows_length cols records' (length c.lengths))
            ∙ ap (λ (x : List ℕ). over x records) rows_are;
        patches_are = q.patches_are;
      }
