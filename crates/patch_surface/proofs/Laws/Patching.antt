-- From a surface that passed the checks, by its loops and their rims, to what the patcher leaves.
use Rattle.std.specs.Prelude.{Ok}
use mathlib.Core.Path.{◌≡◌, ap, ◌∙◌, subst}
use mathlib.Core.List.{List, []}
use Prim.Native.Nat.{ℕ, ◌/◌, ◌≤◌}
use native.Mathlib.Omega.{arith}
use lib.IntN.{ℤ}
use lib.ListN.{length, get_or, take, length-map}
use Rattle.base_answers.specs.declared.Answer.TheVariants.{Done}
use Rattle.surface_rules.specs.Buffers.{over}
use Rattle.loop_rules.specs.Loops.{loops}
use Rattle.loop_cut.specs.Listing.{ListsLoops}
use Rattle.loop_cut.specs.declared.Listed.{Listed}
use Rattle.loop_find.specs.Workings.Asked as asked
use Rattle.loop_find.specs.Workings.Walking.{KeepsTurns}
use Rattle.survey_grid.specs.Grid.{whole_of, grid_of}
use Rattle.survey_rules.proofs.Laws.Known.{ready, lent_long, loops_few}
use Rattle.fill_fates.specs.Course.{Course, ring_list}
use Rattle.fill_scratch.specs.Workings.Tray.{EdgeRoom}
use Rattle.rim_rules.specs.Rims.{rim_list}
use Rattle.rim_mark.specs.Workings.Marking.{AllRoom, AllMarked}
use Rattle.rim_mark.proofs.Laws.Marks.{marks_stand, first_at}
use Rattle.rim_mark.proofs.Laws.Listed.{loops_here, all_room}
use Rattle.patch_records.specs.Records.{records_of}
use Rattle.patch_records.specs.Workings.Columns.{columns}
use Rattle.patch_surface.specs.Outcome.{outcome, buffers, Completes}
use Rattle.patch_surface.specs.Workings.Checking.{Checked, Roomy, Bench}
use Rattle.patch_surface.specs.Workings.Filling.{FoundLoops, FillRoom, Fills}
use Rattle.patch_surface.proofs.Laws.Checking.{known}

module _ {pitch : ℕ} {words corners turns : List ℕ} {grid : List ℤ} (c : Checked pitch words corners turns grid) where
  as_long : length grid ≡ length words
  as_long = ap length c.gridded ∙ length-map words (whole_of pitch)

  -- what was listed and marked are the loops of a surface that passed, whatever scratch was lent for it
  pub found_loops : {rings lengths firsts : List ℕ} {at : Listed} {rings' lengths' firsts' : List ℕ} → ListsLoops corners (loops corners) rings lengths firsts at rings' lengths' firsts'
      → {marks pieces' runs' marks' : List ℕ} → AllMarked grid corners marks pieces' runs' marks' → length corners / 3 ≤ length marks
      → FoundLoops grid corners (take at.vertices rings') (columns (take at.loops lengths') marks' firsts' pieces' runs')
  found_loops {firsts = firsts} ls {marks} m long = record {
    pitch = pitch;
    words = words;
    turns = turns;
    checked = c;
    listed = loops_here (known c) ls c.gridded;
    marked = marks_stand grid corners marks (omega (arith, loops_few (known c))) m.marked;
    firsts_are = λ l h. ap (λ (x : List ℕ). get_or x l 0) ls.all_firsts ∙ first_at corners firsts l h;
    pieces_are = m.pieces_are;
    runs_are = m.runs_are;
  }

  module _ {rings records patches : List ℕ} (roomy : Roomy corners rings records patches) {path places lengths states firsts runs : List ℕ}
      (bench : Bench (length grid / 3) corners turns path places lengths states firsts runs) where
    pub list_room : asked.Ready corners turns rings lengths firsts × asked.Lent corners path places
    list_room = (
      ready (known c) rings lengths firsts (let t = bench.turns_long in omega arith) roomy.rings_long bench.lengths_long bench.firsts_long,
      lent_long (known c) path places (let p = bench.path_long in omega arith) (let p = bench.places_long in omega (arith, as_long)),
    )

    module _ {at : Listed} {rings' lengths' firsts' : List ℕ} (ls : ListsLoops corners (loops corners) rings lengths firsts at rings' lengths' firsts') where
      pub mark_room : {turns' path' places' : List ℕ} → KeepsTurns corners turns' → length turns' ≡ length turns → length path' ≡ length path → length places' ≡ length places
          → AllRoom grid corners (take at.vertices rings') (take at.loops lengths') firsts' turns' path' places' runs states
      mark_room kept t p q =
          all_room (known c) ls c.gridded kept (let l = bench.turns_long in omega arith) (let l = bench.path_long in omega arith) (let l = bench.pieces_long in omega arith) bench.runs_long
          bench.states_long

    pub fill_room : {sizes states' firsts' places' runs' : List ℕ} → length states' ≡ length states → length firsts' ≡ length firsts → length places' ≡ length places → length runs' ≡ length runs
        → FillRoom corners (columns sizes states' firsts' places' runs') records patches
    fill_room s f p r = record {
      states_long = let l = bench.states_long in omega arith;
      firsts_long = let l = bench.firsts_long in omega arith;
      pieces_long = let l = bench.pieces_long in omega arith;
      runs_long = let l = bench.runs_long in omega arith;
      records_long = roomy.records_long;
      patches_long = roomy.patches_long;
    }

    pub edge_room : {turns' path' : List ℕ} → length turns' ≡ length turns → length path' ≡ length path → EdgeRoom corners turns' path'
    edge_room t p = record { links_long = let l = bench.turns_long in omega arith; ends_long = let l = bench.path_long in omega arith }

  -- what is left of the loops, with all rings, is what the patcher leaves
  pub completes : {rings lengths firsts : List ℕ} {at : Listed} {rings' lengths' firsts' : List ℕ} → ListsLoops corners (loops corners) rings lengths firsts at rings' lengths' firsts'
      → {records patches : List ℕ} {laid : ℕ} {records' patches' : List ℕ} → Fills grid corners records patches laid records' patches' → (before : List ℤ)
      → Completes pitch words corners (buffers before rings records patches)
      (outcome (Ok (record { loops = at.loops; vertices = at.vertices; corners = laid })) (buffers (over (grid_of pitch words) before) rings' records' patches'))
  completes ls {records} f before = (
    f.fates,
    subst (λ (x : List ℤ). Course x corners [] (rim_list x corners) (ring_list corners) f.fates) c.gridded f.course,
    λ t. record {
      answer = Done;
      loops = ls.count t;
      vertices = ls.vertices t;
      corners = f.count t;
      left = record {
        grid = over (grid_of pitch words) before;
        rings = ls.all_rings t;
        records = (f.records_are ∙ ap (λ (x : List ℤ). over (records_of x corners f.fates) records) c.gridded) t;
        patches = f.patches_are t;
      };
    },
  )
