-- The loops that were listed, with the parts of the buffers where they stand, for patcher and checker alike: the rims can be marked where the first
-- half-edges stand or apart from them, and then the marks tell which loops are rims.
use mathlib.Core.Path.{◌≡◌, sym, ap, ◌∙◌}
use mathlib.Core.List.{List, map}
use Prim.Native.Nat.{ℕ, ◌/◌, ◌≤◌}
use native.Mathlib.Omega.{arith}
use lib.IntN.{ℤ}
use lib.ListN.{length, get_or, take, length-map}
use Rattle.surface_rules.proofs.Laws.Over.{front_in}
use Rattle.loop_rules.specs.Loops.{loops, ring}
use Rattle.loop_cut.specs.Listing.{first_of, ListsLoops}
use Rattle.loop_cut.specs.declared.Listed.{Listed}
use Rattle.loop_find.specs.Workings.Walking.{KeepsTurns}
use Rattle.survey_grid.specs.Grid.{grid_of}
use Rattle.survey_rules.proofs.Laws.Known.{Known, corner_inside, loops_few}
use Rattle.survey_rules.proofs.Laws.Parts.{of_parts}
use Rattle.rim_rules.specs.Rims.{rim_list}
use Rattle.fill_fates.specs.Course.{ring_list}
use Rattle.fill_scratch.specs.Workings.Rings.{Loops, Input, Marks}
use Rattle.fill_scratch.proofs.Laws.Rings.{loops_of_lem}
use Rattle.rim_mark.specs.Workings.Marking.{Found, MarkRoom, Marked, AllRoom}
use Rattle.rim_mark.proofs.Laws.Crossing.{still_crossing}
use Rattle.rim_mark.proofs.Laws.Marks.{marks_stand, rims_many, first_at}

module _ {pitch : ℕ} {words corners table : List ℕ} (k : Known pitch words corners table) where
  pub input_here : Input corners
  input_here = record { whole = k.fits.corner_threes; few = k.fits.few_corners; inside = corner_inside k }

  pub as_many_loops : length (ring_list corners) ≡ length (loops corners)
  as_many_loops = length-map (loops corners) (ring corners)

  module _ {at : Listed} {rings lengths firsts rings' lengths' firsts' : List ℕ} {g : List ℤ} (ls : ListsLoops corners (loops corners) rings lengths firsts at rings' lengths' firsts') (eg : g ≡ grid_of pitch words) where
    pub loops_here : Loops g corners (ring_list corners) (take at.vertices rings') (take at.loops lengths')
    loops_here =
        of_parts ls pitch words g eg (λ (x : List ℤ) (r l : List ℕ). Loops x corners (ring_list corners) r l)
        (loops_of_lem pitch words corners table k.woven k.on_grid k.fits.few_words k.fits.few_corners)

    firsts_long : length (loops corners) ≤ length firsts'
    firsts_long = front_in (map first_of (loops corners)) firsts firsts' (length (loops corners)) (sym (length-map (loops corners) first_of)) ls.all_firsts

    pub found : {turns : List ℕ} → KeepsTurns corners turns → length corners ≤ length turns → Found g corners (take at.vertices rings') (take at.loops lengths') firsts' turns
    found {turns} kept t = record {
      crossing = still_crossing corners turns k.woven.sound k.fits.few_corners t kept;
      listed = loops_here;
      firsts_are = λ l h. ap (λ (x : List ℕ). get_or x l 0) ls.all_firsts ∙ first_at corners firsts l h;
      firsts_long = firsts_long;
    }

    pub mark_room : {turns path places : List ℕ} → KeepsTurns corners turns → length corners ≤ length turns → length corners ≤ length path → length corners / 3 ≤ length places
        → MarkRoom g corners (take at.vertices rings') (take at.loops lengths') turns path places firsts'
    mark_room kept t p q = record { found = found kept t; path_long = omega arith; places_long = q }

    -- or apart from them, with a piece and a run of each
    pub all_room : {turns path pieces runs marks : List ℕ} → KeepsTurns corners turns → length corners ≤ length turns → length corners / 3 ≤ length path → length corners / 3 ≤ length pieces
        → length corners / 3 ≤ length runs → length corners / 3 ≤ length marks → AllRoom g corners (take at.vertices rings') (take at.loops lengths') firsts' turns path pieces runs marks
    all_room kept t p q r m = record {
      found = found kept t;
      path_long = p;
      pieces_long = q;
      runs_long = omega (arith, loops_few k);
      marks_long = omega (arith, loops_few k);
    }

    module _ {marks : List ℕ} (marked : Marked g corners firsts' marks) where
      pub marks_here : Marks (rim_list g corners) marks
      marks_here = marks_stand g corners firsts' firsts_long marked

      pub rims_here : length (rim_list g corners) ≡ length (ring_list corners)
      rims_here = rims_many g corners ∙ sym as_many_loops
