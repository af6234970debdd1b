-- What lies between the checks and the charting of a surface that passed them, and the report alone.
use Rattle.std.specs.Prelude.{◌≡◌, Bool, true, false, List, ℕ, ◌*◌, ◌/◌, ◌≤◌, ℤ, length, take, Result, Ok, Err}
use Rattle.base_answers.specs.Numbers.{refusing}
use Rattle.base_answers.specs.declared.Refusal.{Refusal}
use Rattle.base_answers.specs.declared.Answer.{Answer}
use Rattle.base_answers.specs.declared.Answer.TheVariants.{Refused}
use Rattle.base_answers.specs.declared.Answer.TheVariants.{Done}
use Rattle.base_limits.specs.Limits as limits
use Rattle.surface_rules.specs.Buffers.{over}
use Rattle.surface_rules.specs.Refusals.{refusal, sheet_refusal}
use Rattle.loop_rules.specs.Loops.{loops}
use Rattle.loop_cut.specs.Listing.{rings_of}
use Rattle.survey_grid.specs.Grid.{grid_of}
use Rattle.patch_records.specs.Workings.Columns.{Columns, columns}
use Rattle.patch_surface.specs.Workings.Checking.{Checked}
use Rattle.patch_surface.specs.Workings.Filling.{FoundLoops}
use Rattle.chart_rules.specs.Report.{report_of, entry_numbers}
use Rattle.chart_surface.specs.Outcome.{Buffers, buffers, lent, needs, outcome, Completes}
use Rattle.chart_surface.specs.declared.Charted.{Charted}

-- room for what is left besides the grid
pub record Roomy (corners rings records report : List ℕ) : Type 0 where
  pub rings_long : length corners ≤ length rings
  pub records_long : limits.record_numbers * (length corners / 3) ≤ length records
  pub report_long : 4 * (length corners / 3) ≤ length report

-- no check refused, and the grid was laid
pub record Passed (pitch : ℕ) (words corners : List ℕ) (b : Buffers) (turns : List ℕ) (grid' : List ℤ) : Type 0 where
  pub none_refused : refusal pitch words corners (lent b) (needs words corners) ≡ Done
  pub checked : Checked pitch words corners turns (grid_of pitch words)
  pub roomy : Roomy corners b.rings b.records b.report
  pub laid : grid' ≡ over (grid_of pitch words) b.grid

-- a refusal, with the grid as it was; or none
abbrev pub Checks : ℕ → List ℕ → List ℕ → Buffers → Answer → List ℕ → List ℤ → Type 0
Checks pitch words corners b r turns grid' =
    (refusing r ≡ true → (r ≡ refusal pitch words corners (lent b) (needs words corners)) × (grid' ≡ b.grid))
    × (refusing r ≡ false → Passed pitch words corners b turns grid')

-- Scratch for finding the loops: a turn and an edge of the path for each corner, a place for each point, and there also a piece for each triangle,
-- a length, a state, a first half-edge and a run for each loop.
pub record LoopBench (points : ℕ) (corners turns path places : List ℕ) (c : Columns) : Type 0 where
  pub turns_long : length corners ≤ length turns
  pub path_long : length corners ≤ length path
  pub places_long : points ≤ length places
  pub pieces_long : length corners / 3 ≤ length places
  pub lengths_long : length corners / 3 ≤ length c.lengths
  pub states_long : length corners / 3 ≤ length c.states
  pub firsts_long : length corners / 3 ≤ length c.firsts
  pub runs_long : length corners / 3 ≤ length c.runs

-- the same for patching them too: turns and path become the links and the ends of the chained edges, and there is a place for the patches
pub record ChartBench (corners turns path patches : List ℕ) : Type 0 where
  pub turns_twice : 2 * length corners ≤ length turns
  pub path_twice : 2 * length corners ≤ length path
  pub patches_long : 3 * length corners ≤ length patches

-- a surface that passed the checks, with room for its rings and its report; which pitch and words those were does not matter
pub record LoopRoom (corners turns : List ℕ) (grid : List ℤ) (rings report : List ℕ) : Type 0 where
  pub pitch : ℕ
  pub words : List ℕ
  pub checked : Checked pitch words corners turns grid
  pub rings_long : length corners ≤ length rings
  pub report_long : 4 * (length corners / 3) ≤ length report

-- Whichever they were, the loops were found, their rings and the report laid, and all counted.
pub record LoopsCharted (pitch : ℕ) (words corners : List ℕ) (grid : List ℤ) (rings report : List ℕ) (r : Charted) (rings' report' : List ℕ) (c : Columns) : Type 0 where
  pub loops_are : r.loops ≡ length (loops corners)
  pub vertices_are : r.vertices ≡ length (rings_of corners (loops corners))
  pub entries_are : r.entries ≡ length (report_of (grid_of pitch words) corners)
  pub rings_are : rings' ≡ over (rings_of corners (loops corners)) rings
  pub lengths_in : r.loops ≤ length c.lengths
  pub report_is : report' ≡ over (entry_numbers (report_of (grid_of pitch words) corners)) report
  pub found : FoundLoops grid corners (take r.vertices rings') (columns (take r.loops c.lengths) c.states c.firsts c.pieces c.runs)

abbrev pub ChartsLoops : List ℕ → List ℕ → List ℤ → List ℕ → List ℕ → Charted → List ℕ → List ℕ → Columns → Type 0
ChartsLoops corners turns grid rings report r rings' report' c =
    (pitch : ℕ) (words : List ℕ) → Checked pitch words corners turns grid → LoopsCharted pitch words corners grid rings report r rings' report' c

-- whichever they were, what is left is what is promised, wherever the grid was laid
abbrev pub Finishes : List ℕ → List ℕ → List ℤ → Buffers → Charted → Buffers → Type 0
Finishes corners turns grid b r b' =
    (pitch : ℕ) (words : List ℕ) → Checked pitch words corners turns grid → (before : List ℤ)
    → Completes pitch words corners (buffers before b.rings b.records b.report)
    (outcome (Ok r) (buffers (over (grid_of pitch words) before) b'.rings b'.records b'.report))

-- ---- the report alone, where there is room for that of any surface

-- the answer, how many entries there are, and the report as it is left
pub record Alone : Type 0 where
  pub answer : Answer
  pub entries : ℕ
  pub report : List ℕ

abbrev pub alone : Result Charted Refusal → List ℕ → Alone
alone (Ok c) report = record { answer = Done; entries = c.entries; report = report }
alone (Err r) report = record { answer = Refused r; entries = 0; report = report }

abbrev pub alone_if : Bool → Answer → ℕ → List ℕ → List ℕ → List ℕ → Alone
alone_if true a pitch words corners report = record { answer = a; entries = 0; report = report }
alone_if false a pitch words corners report = record {
  answer = Done;
  entries = length (report_of (grid_of pitch words) corners);
  report = over (entry_numbers (report_of (grid_of pitch words) corners)) report;
}

abbrev pub alone_of : ℕ → List ℕ → List ℕ → List ℕ → Alone
alone_of pitch words corners report = let a = sheet_refusal pitch words corners in alone_if (refusing a) a pitch words corners report
