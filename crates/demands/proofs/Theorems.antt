-- The demands, a theorem each; the other files have their proofs.
use mathlib.Core.Path.{◌≡◌}
use mathlib.Core.Bool.{true, false}
use mathlib.Core.List.{List, [], map}
use Prim.Native.Nat.{ℕ}
use lib.IntN.{ℤ}
use Rattle.base_answers.specs.Numbers.{refusing}
use Rattle.base_types.specs.Pitches.{is_pitch}
use Rattle.surface_rules.specs.Edges.{Sound}
use Rattle.loop_rules.specs.Loops.{loops, ring}
use Rattle.survey_rules.specs.Outcome as survey
use Rattle.fill_edges.specs.Filling.{Filled}
use Rattle.patch_surface.specs.Outcome as patcher
use Rattle.chart_surface.specs.Outcome as chart
use Rattle.judge_surface.specs.Outcome.{Judges}
use Rattle.demands.specs.Answers.{AnswersDemand}
use Rattle.demands.specs.Grid.{GridDemand}
use Rattle.demands.specs.Loops.{LoopsDemand}
use Rattle.demands.specs.Records.{RecordsDemand}
use Rattle.demands.specs.Texts.{TextsDemand}
use Rattle.demands.specs.Closing.{ClosingDemand}
use Rattle.demands.specs.Sets.{CheckerDemand, PatcherDemand}
use Rattle.demands.specs.Pieces.{GroupsDemand, PiecesDemand}
use Rattle.demands.specs.Report.{ReportDemand}
use Rattle.demands.proofs.Answers.{answers_demand}
use Rattle.demands.proofs.Grid.{grid_demand}
use Rattle.demands.proofs.Kept.{loops_demand}
use Rattle.demands.proofs.Records.{records_demand}
use Rattle.demands.proofs.Texts.{texts_demand}
use Rattle.demands.proofs.Closing.{closing_demand}
use Rattle.demands.proofs.Sets.{checker_demand, patcher_demand}
use Rattle.demands.proofs.Pieces.{groups_demand, pieces_demand}
use Rattle.demands.proofs.Report.{report_demand}

-- 1. Every input gets an answer: any bytes are a text or have a fault; each refusal has a number and a place, is given exactly when the table
-- says, and changes nothing.
pub demand_1 : AnswersDemand
demand_1 = answers_demand

-- 2. Every coordinate goes to the nearest multiple of the pitch, a tie to the even one; the rest is exact; and grids have these numbers.
pub demand_2_grid : (pitch : ℕ) → is_pitch pitch ≡ true → GridDemand pitch
demand_2_grid = grid_demand

-- Each open edge lies in one loop, and no loop meets a vertex twice.
pub demand_2_loops : (corners : List ℕ) → Sound corners → LoopsDemand corners
demand_2_loops = loops_demand

-- The record of each loop that the patcher leaves is the fact: its length, state and weight, its first half-edge, its piece and its run.
pub demand_2_records : (pitch : ℕ) (words corners : List ℕ) (b : patcher.Buffers) (o : patcher.Outcome) → patcher.Patches pitch words corners b o → refusing o.answer ≡ false → RecordsDemand pitch words corners b o
demand_2_records = records_demand

-- A sheet that is written reads back as the same sheet, and a text that is accepted is the one that would be written.
pub demand_2_texts : TextsDemand
demand_2_texts = texts_demand

-- 3. The checker passes a set exactly when it is right loop by loop.
pub demand_3_checker : (pitch : ℕ) (words corners states set : List ℕ) (b : survey.Buffers) (o : survey.Outcome) → Judges pitch words corners states set b o → CheckerDemand pitch words corners states set b o
demand_3_checker = checker_demand

-- The patcher's own sets pass.
pub demand_3_patcher : (pitch : ℕ) (words corners : List ℕ) (b : patcher.Buffers) (o : patcher.Outcome) → patcher.Patches pitch words corners b o → refusing o.answer ≡ false → PatcherDemand pitch words corners o
demand_3_patcher = patcher_demand

-- After it no directed edge occurs twice, and the only open edges are those of loops that were left.
pub demand_3_edges : (corners : List ℕ) (patches : List (List ℕ)) → Sound corners → Filled corners [] (map (ring corners) (loops corners)) patches → ClosingDemand corners patches
demand_3_edges = closing_demand

-- (i) Pieces are groups of triangles joined through shared edges, and each that has a loop has one rim.
pub demand_i_pieces : (corners : List ℕ) → GroupsDemand corners
demand_i_pieces = groups_demand

pub demand_i_rims : (grid : List ℤ) (corners : List ℕ) → Sound corners → PiecesDemand grid corners
demand_i_rims = pieces_demand

-- (vi) Each loop stands in the report in one place, as the rim of its piece, a tide pool or a lake, and each piece once.
pub demand_vi_report : (pitch : ℕ) (words corners : List ℕ) (b : chart.Buffers) (o : chart.Outcome) → chart.Charts pitch words corners b o → refusing o.answer ≡ false → ReportDemand pitch words corners b o
demand_vi_report = report_demand
