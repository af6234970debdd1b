-- The walk along a piece's other loops: the tide pools so far are laid, and the lakes so far are kept.
use mathlib.Core.Path.{◌≡◌, refl, sym, ap, ap₂, ◌∙◌, subst}
use mathlib.Core.Bool.{Bool, true, false, not}
use mathlib.Core.Logic.{⊎_elim}
use mathlib.Core.List.{List, [], ◌∷◌, ◌++◌, map, map-append}
use Prim.Native.Nat.{ℕ, ◌+◌, ◌*◌, ◌-◌, ◌<◌, ◌≤◌}
use native.Mathlib.Omega.{arith}
use lib.IntN.{ℤ}
use lib.ListN.{length, get_or, take, set, length-set, length-append, length-map}
use borrow.Author.Tests.{eqb-true, not-true}
use Rattle.surface_rules.specs.Buffers.{over, laid}
use Rattle.surface_rules.proofs.Laws.Over.{over_none, over_snoc, start_of}
use Rattle.surface_rules.proofs.Laws.Laid.{laid_length}
use Rattle.surface_rules.proofs.Laws.Tests.{both_true}
use Rattle.loop_rules.specs.Loops.{loops, ring}
use Rattle.fill_scratch.specs.Workings.Rings.{RingPlace}
use Rattle.rim_pieces.specs.Workings.Flooding.{none}
use Rattle.chart_rules.specs.declared.Entry.{Entry}
use Rattle.chart_rules.specs.Report.{entry, numbers, touches, of_kind}
use Rattle.chart_rules.proofs.Laws.Picking.{pick_begins, pick_stretch}
use Rattle.chart_rules.proofs.Laws.Once.{among}
use Rattle.chart_lay.specs.Workings.Coast.{Coast}
use Rattle.chart_lay.specs.Workings.Chaining.{Foremost, First}
use Rattle.chart_lay.specs.Workings.Stamping.{Inside, any_stamp}
use Rattle.chart_lay.specs.Workings.Entering.{Enters}
use Rattle.chart_lay.specs.Workings.Others.{is_other_of, Chained, Others, others_of, OthersRoom, OthersLaid}
use Rattle.chart_lay.proofs.Laws.Firsts.{first_there, first_none}
use Rattle.chart_lay.proofs.Laws.Entering.{enters_none, enters_one, enters_then, enters_same}
use Rattle.chart_lay.proofs.Laws.Kinds.{no_pool, no_lake, is_pool, is_lake}
use Rattle.chart_lay.proofs.Laws.Picked.{up_to, few_picked, more_picked, picked_it, passed_it}
use Rattle.chart_lay.proofs.Laws.Rings.{part_of, ring_place, length_in, start_in, link_in, loop_few, part_is, part_inside}

-- all before `upto` are told, and l is the first from there on
pub record Walked (grid : List ℤ) (corners : List ℕ) (p : ℕ) (lakes₀ report₀ : List ℕ) (from : ℕ) (lakes report : List ℕ) (at kept l : ℕ) : Type 0 where
  pub upto : ℕ
  pub within : upto ≤ length (loops corners)
  pub next : First (is_other_of grid corners p) upto (length (loops corners)) l
  pub pools_laid : Enters from (map (entry 2) (up_to (among grid corners p 2) upto)) report₀ at report
  pub lakes_are : lakes ≡ over (up_to (among grid corners p 3) upto) lakes₀
  pub counted : kept ≡ length (up_to (among grid corners p 3) upto)

module _ {grid : List ℤ} {corners : List ℕ} {p : ℕ} {coast : Coast} {stamps : List ℕ} {head stamp : ℕ} (o : Others grid corners p coast stamps head stamp)
    {lakes₀ report₀ : List ℕ} {from : ℕ} {lakes report : List ℕ} {at kept l : ℕ} (w : Walked grid corners p lakes₀ report₀ from lakes report at kept l) where
  abbrev n : ℕ
  n = length (loops corners)

  -- ---- l is a loop

  module _ (there : l ≡ none → ⊥) where
    foremost : Foremost (is_other_of grid corners p) w.upto n l
    foremost = first_there there w.next

    pub loop_in : l < n
    loop_in = foremost.below

    -- the one behind it
    linked : First (is_other_of grid corners p) (l + 1) n (get_or coast.links l 0)
    linked =
        let b = both_true _ _ foremost.holds in
        subst (λ (x : ℕ). First (is_other_of grid corners x) (l + 1) n (get_or coast.links l 0)) (eqb-true _ _ b.0) (o.chained.links_are l loop_in (not-true _ b.1))

    -- its stamp tells whether it touches the rim
    touches_so : {t : Bool} → t ≡ any_stamp (part_of coast l) stamps stamp → touches grid corners l ≡ t
    touches_so e = sym (o.told l loop_in foremost.holds) ∙ ap (λ (x : List ℕ). any_stamp x stamps stamp) (sym (part_is o.chained loop_in)) ∙ sym e

    module _ {t : Bool} (e : t ≡ any_stamp (part_of coast l) stamps stamp) where
      -- a tide pool
      module _ (d : t ≡ true) where
        pool_here : among grid corners p 2 l ≡ true
        pool_here = is_pool grid corners p l foremost.holds ∙ touches_so e ∙ d

        no_lake_here : among grid corners p 3 l ≡ false
        no_lake_here = is_lake grid corners p l foremost.holds ∙ ap not (touches_so e ∙ d)

        pools_next : up_to (among grid corners p 2) (l + 1) ≡ up_to (among grid corners p 2) w.upto ++ (l ∷ [])
        pools_next = picked_it (among grid corners p 2) foremost (no_pool grid corners p) pool_here

        pub pool_room : at + 1 ≤ from + length (up_to (among grid corners p 2) n)
        pool_room =
            let a : length (up_to (among grid corners p 2) (l + 1)) ≡ length (up_to (among grid corners p 2) w.upto) + 1 = ap length pools_next ∙ length-append (up_to (among grid corners p 2) w.upto) (l ∷ []) in
            let b = more_picked (among grid corners p 2) (l + 1) n (let z = loop_in in omega arith) in
            let c = w.pools_laid.counted in
            let d = length-map (up_to (among grid corners p 2) w.upto) (entry 2) in
            omega arith

        pub walked_pool : {report' : List ℕ} → 2 * at ≤ length report₀ → report' ≡ laid (2 * at) (numbers (entry 2 l)) report
            → Walked grid corners p lakes₀ report₀ from lakes report' (at + 1) kept (get_or coast.links l 0)
        walked_pool room q = record {
          upto = l + 1;
          within = let z = loop_in in omega arith;
          next = linked;
          pools_laid = enters_same (sym (ap (map (entry 2)) pools_next ∙ map-append (entry 2) (up_to (among grid corners p 2) w.upto) (l ∷ []))) refl
              (enters_then room w.pools_laid (enters_one (entry 2 l) q));
          lakes_are = w.lakes_are ∙ ap (λ (x : List ℕ). over x lakes₀) (sym same);
          counted = w.counted ∙ ap length (sym same);
        }
          where
            same : up_to (among grid corners p 3) (l + 1) ≡ up_to (among grid corners p 3) w.upto
            same = passed_it (among grid corners p 3) foremost (no_lake grid corners p) no_lake_here

      -- a lake
      module _ (d : t ≡ false) where
        lake_here : among grid corners p 3 l ≡ true
        lake_here = is_lake grid corners p l foremost.holds ∙ ap not (touches_so e ∙ d)

        no_pool_here : among grid corners p 2 l ≡ false
        no_pool_here = is_pool grid corners p l foremost.holds ∙ touches_so e ∙ d

        pub walked_lake : kept < length lakes₀ → Walked grid corners p lakes₀ report₀ from (set lakes kept l) report at (kept + 1) (get_or coast.links l 0)
        walked_lake room = record {
          upto = l + 1;
          within = let z = loop_in in omega arith;
          next = linked;
          pools_laid = enters_same (ap (map (entry 2)) (sym (passed_it (among grid corners p 2) foremost (no_pool grid corners p) no_pool_here))) refl w.pools_laid;
          lakes_are = ap (λ (x : List ℕ). set x kept l) w.lakes_are ∙ over_snoc (up_to (among grid corners p 3) w.upto) lakes₀ l 0 kept w.counted room ∙ ap (λ (x : List ℕ). over x lakes₀) (sym more);
          counted = let a = w.counted in let b = length-append (up_to (among grid corners p 3) w.upto) (l ∷ []) in let c = ap length more in omega arith;
        }
          where
            more : up_to (among grid corners p 3) (l + 1) ≡ up_to (among grid corners p 3) w.upto ++ (l ∷ [])
            more = picked_it (among grid corners p 3) foremost (no_lake grid corners p) lake_here

    -- there is a place for a lake more
    pub kept_few : kept < n
    kept_few = let a = w.counted in let b = few_picked (among grid corners p 3) w.upto in let c = foremost.from in let d = loop_in in omega arith

    -- the walk goes on
    pub walk_less : none - get_or coast.links l 0 < none - l
    walk_less = ⊎_elim (λ e. let z = loop_in in let f = loop_few o.chained loop_in in let g = e.0 in omega arith) (λ f. let z = f.from in let y = f.below in let g = loop_few o.chained f.below in omega arith) linked

  -- ---- l is none

  module _ (none_there : l ≡ none) where
    past : (j : ℕ) → w.upto ≤ j → j < n → is_other_of grid corners p j ≡ false
    past = first_none (let a = o.chained.listed.few_loops in let b = length-map (loops corners) (ring corners) in omega arith) none_there w.next

    all_pools : up_to (among grid corners p 2) n ≡ up_to (among grid corners p 2) w.upto
    all_pools = pick_stretch (among grid corners p 2) w.upto n w.within (λ j a b. no_pool grid corners p j (past j a b))

    all_lakes : up_to (among grid corners p 3) n ≡ up_to (among grid corners p 3) w.upto
    all_lakes = pick_stretch (among grid corners p 3) w.upto n w.within (λ j a b. no_lake grid corners p j (past j a b))

    pub lakes_told : take kept lakes ≡ up_to (among grid corners p 3) n
    lakes_told = ap (take kept) w.lakes_are ∙ start_of (up_to (among grid corners p 3) w.upto) lakes₀ kept w.counted ∙ sym all_lakes

    pub at_end : at ≡ from + length (up_to (among grid corners p 2) n)
    at_end = let a = w.pools_laid.counted in let b = length-map (up_to (among grid corners p 2) w.upto) (entry 2) in let c = ap length all_pools in omega arith

    pub walked_ends : {r : ℕ} {report' : List ℕ} → 2 * at ≤ length report₀ → Enters at (map (entry 3) (take kept lakes)) report r report' → Enters from (others_of grid corners p) report₀ r report'
    unfolding of_kind
    walked_ends room x =
        enters_same (ap₂ (λ (a b : List Entry). a ++ b) (ap (map (entry 2)) (sym all_pools)) (ap (map (entry 3)) lakes_told)) refl (enters_then room w.pools_laid x)

-- for whichever piece it is
pub record Walking (coast : Coast) (stamps : List ℕ) (head : ℕ) (lakes₀ report₀ : List ℕ) (stamp from : ℕ) (lakes report : List ℕ) (at kept l : ℕ) : Type 0 where
  pub lakes_long : length lakes ≡ length lakes₀
  pub report_long : length report ≡ length report₀
  pub walked : (grid : List ℤ) (corners : List ℕ) (p : ℕ) → Others grid corners p coast stamps head stamp
      → Walked grid corners p lakes₀ report₀ from lakes report at kept l

-- a walk that came to the same
pub walking_same : {coast : Coast} {stamps : List ℕ} {head : ℕ} {lakes₀ report₀ : List ℕ} {stamp from : ℕ} {lakes lakes' report report' : List ℕ} {at at' kept kept' l : ℕ}
    → lakes' ≡ lakes → report' ≡ report → at' ≡ at → kept' ≡ kept
    → Walking coast stamps head lakes₀ report₀ stamp from lakes report at kept l → Walking coast stamps head lakes₀ report₀ stamp from lakes' report' at' kept' l
walking_same a b c d w = rw (a, b, c, d) w

module _ {coast : Coast} {stamps : List ℕ} {head : ℕ} {lakes₀ report₀ : List ℕ} {stamp from : ℕ} (room : OthersRoom coast stamps head lakes₀ report₀ stamp from) where
  pub walking_begins : Walking coast stamps head lakes₀ report₀ stamp from lakes₀ report₀ from 0 head
  walking_begins = record {
    lakes_long = refl;
    report_long = refl;
    walked = λ grid corners p o. record {
      upto = 0;
      within = omega arith;
      next = o.head_is;
      pools_laid = enters_same (ap (map (entry 2)) (sym (pick_begins (among grid corners p 2)))) refl (enters_none from report₀);
      lakes_are = sym (over_none lakes₀) ∙ ap (λ (x : List ℕ). over x lakes₀) (sym (pick_begins (among grid corners p 3)));
      counted = ap length (sym (pick_begins (among grid corners p 3)));
    };
  }

  -- there is room for all of them
  all_room : 2 * (from + (length (up_to (among room.grid room.corners room.p 2) (length (loops room.corners))) + length (up_to (among room.grid room.corners room.p 3) (length (loops room.corners))))) ≤ length report₀
  unfolding of_kind
  all_room =
      let a = room.room in
      let b = length-append (of_kind room.grid room.corners room.p 2) (of_kind room.grid room.corners room.p 3) in
      let c = length-map (up_to (among room.grid room.corners room.p 2) (length (loops room.corners))) (entry 2) in
      let d = length-map (up_to (among room.grid room.corners room.p 3) (length (loops room.corners))) (entry 3) in
      omega arith

  module _ {lakes report : List ℕ} {at kept l : ℕ} (w : Walking coast stamps head lakes₀ report₀ stamp from lakes report at kept l) where
    -- the walk of the piece for which there is room
    walk : Walked room.grid room.corners room.p lakes₀ report₀ from lakes report at kept l
    walk = w.walked room.grid room.corners room.p room.others

    chain : Chained room.grid room.corners coast
    chain = room.others.chained

    module _ (there : l ≡ none → ⊥) where
      its_loop : l < length (loops room.corners)
      its_loop = loop_in room.others walk there

      pub place : RingPlace coast.rings coast.lengths l (get_or coast.starts l 0)
      place = ring_place chain its_loop

      pub start_there : l < length coast.starts
      start_there = start_in chain its_loop

      pub length_there : l < length coast.lengths
      length_there = length_in chain its_loop

      pub link_there : l < length coast.links
      link_there = link_in chain its_loop

      pub part_there : Inside (part_of coast l) stamps
      part_there = part_inside chain its_loop stamps room.others.stamps_long

      pub lake_there : kept < length lakes
      lake_there = let a = kept_few room.others walk there in let b = room.lakes_long in let c = w.lakes_long in omega arith

      pub going_on : none - get_or coast.links l 0 < none - l
      going_on = walk_less room.others walk there

      module _ {t : Bool} (e : t ≡ any_stamp (part_of coast l) stamps stamp) where
        pub entry_there : t ≡ true → 2 * at + 2 ≤ length report
        entry_there d = let a = pool_room room.others walk there e d in let b = all_room in let c = w.report_long in omega arith

        pub walking_pool : {report' : List ℕ} → t ≡ true → report' ≡ laid (2 * at) (numbers (entry 2 l)) report
            → Walking coast stamps head lakes₀ report₀ stamp from lakes report' (at + 1) kept (get_or coast.links l 0)
        walking_pool d q =
            let a = entry_there d in
            record {
              lakes_long = w.lakes_long;
              report_long = ap length q ∙ laid_length (2 * at) report (numbers (entry 2 l)) a ∙ w.report_long;
              walked = λ grid corners p o. walked_pool o (w.walked grid corners p o) there e d (let c = w.report_long in omega arith) q;
            }

        pub walking_lake : t ≡ false → Walking coast stamps head lakes₀ report₀ stamp from (set lakes kept l) report at (kept + 1) (get_or coast.links l 0)
        walking_lake d = record {
          lakes_long = length-set lakes kept l ∙ w.lakes_long;
          report_long = w.report_long;
          walked = λ grid corners p o. walked_lake o (w.walked grid corners p o) there e d (let a = lake_there in let c = w.lakes_long in omega arith);
        }

    module _ (e : l ≡ none) where
      pub kept_in : kept ≤ length lakes
      kept_in = let a = walk.counted in let b = few_picked (among room.grid room.corners room.p 3) walk.upto in let c = walk.within in let d = room.lakes_long in let f = w.lakes_long in omega arith

      pub lakes_room : 2 * (at + length (take kept lakes)) ≤ length report
      lakes_room = let a = at_end room.others walk e in let b = ap length (lakes_told room.others walk e) in let c = all_room in let d = w.report_long in omega arith

      pub walking_ends : {r : ℕ} {report' : List ℕ} → Enters at (map (entry 3) (take kept lakes)) report r report' → OthersLaid coast stamps head report₀ stamp from r report'
      walking_ends x grid corners p o = walked_ends o (w.walked grid corners p o) e (let a = lakes_room in let d = w.report_long in omega arith) x
