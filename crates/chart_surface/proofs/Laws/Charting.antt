-- From a surface that passed the checks, by its loops, their rims and the course, to what charting leaves.
use Rattle.std.specs.Prelude.{Ok}
use mathlib.Core.Path.{◌≡◌, ap, ◌∙◌, subst}
use mathlib.Core.List.{List, []}
use Prim.Native.Nat.{ℕ, ◌*◌, ◌/◌, ◌≤◌}
use native.Mathlib.Omega.{arith}
use lib.IntN.{ℤ}
use lib.ListN.{length, take, length-map}
use Rattle.base_answers.specs.declared.Answer.TheVariants.{Done}
use Rattle.surface_rules.specs.Buffers.{over}
use Rattle.surface_rules.proofs.Laws.Over.{front_in}
use Rattle.loop_rules.specs.Loops.{loops}
use Rattle.loop_cut.specs.Listing.{ListsLoops, rings_of}
use Rattle.loop_cut.specs.declared.Listed.{Listed}
use Rattle.loop_find.specs.Workings.Asked as asked
use Rattle.loop_find.specs.Workings.Walking.{KeepsTurns}
use Rattle.survey_grid.specs.Grid.{whole_of, grid_of}
use Rattle.survey_rules.proofs.Laws.Known.{ready, lent_long, loops_few}
use Rattle.survey_rules.proofs.Laws.Parts.{lengths_in}
use Rattle.rim_pieces.specs.Computed.{piece_count}
use Rattle.rim_rules.specs.Rims.{rim_list}
use Rattle.rim_mark.specs.Workings.Marking.{AllRoom, AllMarked}
use Rattle.rim_mark.proofs.Laws.Listed.{input_here, all_room}
use Rattle.fill_fates.specs.Course.{Course, ring_list}
use Rattle.fill_scratch.specs.Workings.Tray.{EdgeRoom}
use Rattle.patch_records.specs.Records.{records_of}
use Rattle.patch_records.specs.Workings.Columns.{Columns, columns}
use Rattle.patch_surface.specs.Workings.Checking.{Checked}
use Rattle.patch_surface.specs.Workings.Filling.{FoundLoops, FillRoom, Fills}
use Rattle.patch_surface.proofs.Laws.Checking.{known}
use Rattle.patch_surface.proofs.Laws.Patching.{found_loops}
use Rattle.chart_rules.specs.Report.{report_of, entry_numbers}
use Rattle.chart_lay.specs.Workings.Laying.{Shores, LayRoom, Lays}
use Rattle.chart_surface.specs.Outcome.{outcome, buffers, Completes}
use Rattle.chart_surface.specs.Workings.Charting.{Roomy, LoopBench, ChartBench, LoopsCharted}
use Rattle.chart_surface.specs.declared.Charted.{Charted}

module _ {pitch : ℕ} {words corners turns : List ℕ} {grid : List ℤ} (c : Checked pitch words corners turns grid) where
  as_long : length grid ≡ length words
  as_long = ap length c.gridded ∙ length-map words (whole_of pitch)

  module _ {rings path places : List ℕ} {cs : Columns} (rings_long : length corners ≤ length rings) (bench : LoopBench (length grid / 3) corners turns path places cs) where
    pub list_room : asked.Ready corners turns rings cs.lengths cs.firsts × asked.Lent corners path places
    list_room = (
      ready (known c) rings cs.lengths cs.firsts bench.turns_long rings_long bench.lengths_long bench.firsts_long,
      lent_long (known c) path places bench.path_long (let p = bench.places_long in omega (arith, as_long)),
    )

    module _ {at : Listed} {rings' lengths' firsts' : List ℕ} (ls : ListsLoops corners (loops corners) rings cs.lengths cs.firsts at rings' lengths' firsts') where
      few_loops : length (loops corners) ≤ length corners / 3
      few_loops = loops_few (known c)

      pub mark_room : {turns' path' places' : List ℕ} → KeepsTurns corners turns' → length turns' ≡ length turns → length path' ≡ length path → length places' ≡ length places
          → AllRoom grid corners (take at.vertices rings') (take at.loops lengths') firsts' turns' path' places' cs.runs cs.states
      mark_room kept t p q =
          let a = bench.turns_long in let b = bench.path_long in let d = bench.pieces_long in
          all_room (known c) ls c.gridded kept (omega arith) (omega arith) (omega arith) bench.runs_long bench.states_long

      module _ {pieces' runs' states' : List ℕ} (m : AllMarked grid corners cs.states pieces' runs' states') {count : ℕ} (n : count ≡ piece_count corners)
          (long : length pieces' ≡ length places) where
        found_here : FoundLoops grid corners (take at.vertices rings') (columns (take at.loops lengths') states' firsts' pieces' runs')
        found_here = found_loops c ls m bench.states_long

        shores : Shores grid corners (take at.vertices rings') (take at.loops lengths') states' pieces' count
        shores = record {
          sound = c.woven.sound;
          input = input_here (known c);
          listed = found_here.listed;
          marked = found_here.marked;
          pieces_long = let l = bench.pieces_long in omega (arith, few_loops);
          pieces_are = m.pieces_are;
          counted = n;
        }

        pub lay_room : {report : List ℕ} → 4 * (length corners / 3) ≤ length report
            → LayRoom (take at.vertices rings') (take at.loops lengths') states' pieces' report count
        lay_room room = record { grid = grid; corners = corners; shores = shores; room = room }

        pub charted : {report report' : List ℕ} {entries : ℕ} → Lays (take at.vertices rings') (take at.loops lengths') states' pieces' report count entries report'
            → LoopsCharted pitch words corners grid rings report (record { loops = at.loops; vertices = at.vertices; entries = entries }) rings' report'
            (columns lengths' states' firsts' pieces' runs')
        charted {report} lays =
            let l = lays grid corners shores in
            record {
              loops_are = ls.count;
              vertices_are = ls.vertices;
              entries_are = l.0 ∙ ap (λ (g : List ℤ). length (report_of g corners)) c.gridded;
              rings_are = ls.all_rings;
              lengths_in = lengths_in ls;
              report_is = l.1 ∙ ap (λ (g : List ℤ). over (entry_numbers (report_of g corners)) report) c.gridded;
              found = found_here;
            }

-- the rings stand at the start of their buffer
pub charted_rings : {pitch : ℕ} {words corners : List ℕ} {grid : List ℤ} {rings report rings' report' : List ℕ} {r : Charted} {cs : Columns}
    → LoopsCharted pitch words corners grid rings report r rings' report' cs → r.vertices ≤ length rings'
charted_rings {corners = corners} {rings = rings} {rings' = rings'} {r = r} l = front_in (rings_of corners (loops corners)) rings rings' r.vertices l.vertices_are l.rings_are

-- room for the records, once the loops were charted
pub fill_room : {corners rings records report turns path places patches : List ℕ} {points : ℕ} {cs cs' : Columns} → Roomy corners rings records report
    → LoopBench points corners turns path places cs → ChartBench corners turns path patches
    → length cs'.states ≡ length cs.states → length cs'.firsts ≡ length cs.firsts → length cs'.pieces ≡ length places → length cs'.runs ≡ length cs.runs
    → FillRoom corners cs' records patches
fill_room roomy bench more s f p r =
    let a = bench.states_long in let b = bench.firsts_long in let d = bench.pieces_long in let e = bench.runs_long in
    record {
      states_long = omega arith;
      firsts_long = omega arith;
      pieces_long = omega arith;
      runs_long = omega arith;
      records_long = roomy.records_long;
      patches_long = more.patches_long;
    }

-- and for the chained edges
pub edge_room : {corners turns path patches turns' path' : List ℕ} → ChartBench corners turns path patches → length turns' ≡ length turns → length path' ≡ length path
    → EdgeRoom corners turns' path'
edge_room more t p = let a = more.turns_twice in let b = more.path_twice in record { links_long = omega arith; ends_long = omega arith }

-- charted loops with their records are what is promised
pub completes : {pitch : ℕ} {words corners turns : List ℕ} {grid : List ℤ} → Checked pitch words corners turns grid
    → {rings report rings' report' : List ℕ} {r : Charted} {cs : Columns} → LoopsCharted pitch words corners grid rings report r rings' report' cs
    → {records patches records' patches' : List ℕ} {laid : ℕ} → Fills grid corners records patches laid records' patches' → (before : List ℤ)
    → Completes pitch words corners (buffers before rings records report) (outcome (Ok r) (buffers (over (grid_of pitch words) before) rings' records' report'))
completes {pitch} {words} {corners} c l {records} f before = (
  f.fates,
  subst (λ (x : List ℤ). Course x corners [] (rim_list x corners) (ring_list corners) f.fates) c.gridded f.course,
  λ t. record {
    answer = Done;
    loops = l.loops_are t;
    vertices = l.vertices_are t;
    entries = l.entries_are t;
    left = record {
      grid = over (grid_of pitch words) before;
      rings = l.rings_are t;
      records = (f.records_are ∙ ap (λ (x : List ℤ). over (records_of x corners f.fates) records) c.gridded) t;
      report = l.report_is t;
    };
  },
)
