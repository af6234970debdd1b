-- What charting leaves and answers: the grid, the loops as the patcher leaves them, and the report; or a refusal, and everything as it was.
use Rattle.std.specs.Prelude.{◌≡◌, Bool, true, false, List, [], ◌∷◌, ℕ, ◌*◌, ◌/◌, ℤ, length, Result, Ok, Err}
use Rattle.base_answers.specs.Numbers.{refusing}
use Rattle.base_answers.specs.declared.Refusal.{Refusal}
use Rattle.base_answers.specs.declared.Answer.{Answer}
use Rattle.base_answers.specs.declared.Answer.TheVariants.{Refused}
use Rattle.base_answers.specs.declared.Answer.TheVariants.{Done}
use Rattle.base_limits.specs.Limits as limits
use Rattle.surface_rules.specs.Buffers.{over}
use Rattle.surface_rules.specs.Refusals.{refusal, sheet_refusal}
use Rattle.loop_rules.specs.Loops.{loops}
use Rattle.loop_cut.specs.Listing.{rings_of}
use Rattle.survey_grid.specs.Grid.{grid_of}
use Rattle.rim_rules.specs.Rims.{rim_list}
use Rattle.fill_fates.specs.Fates.{Fate}
use Rattle.fill_fates.specs.Course.{Course, ring_list}
use Rattle.patch_records.specs.Records.{records_of}
use Rattle.chart_rules.specs.Report.{report_of, entry_numbers}
use Rattle.chart_surface.specs.declared.Charted.{Charted}

-- the lent buffers 1 to 4
pub record Buffers : Type 0 where
  pub grid : List ℤ
  pub rings : List ℕ
  pub records : List ℕ
  pub report : List ℕ

-- the answer, the counts, and the buffers as they are left
pub record Outcome : Type 0 where
  pub answer : Answer
  pub loops : ℕ
  pub vertices : ℕ
  pub entries : ℕ
  pub left : Buffers

abbrev pub buffers : List ℤ → List ℕ → List ℕ → List ℕ → Buffers
buffers grid rings records report = record { grid = grid; rings = rings; records = records; report = report }

-- "A refusal ... leaves all buffers untouched and has zero in every count."
abbrev pub refused : Answer → Buffers → Outcome
refused a b = record { answer = a; loops = 0; vertices = 0; entries = 0; left = b }

-- what is answered, with what is left
abbrev pub outcome : Result Charted Refusal → Buffers → Outcome
outcome (Ok c) b = record { answer = Done; loops = c.loops; vertices = c.vertices; entries = c.entries; left = b }
outcome (Err r) b = refused (Refused r) b

-- "loop records ... (as the patcher's)"; "the answer counts the entries"
abbrev pub done : ℕ → List ℕ → List ℕ → List Fate → Buffers → Outcome
done pitch words corners fates b = record {
  answer = Done;
  loops = length (loops corners);
  vertices = length (rings_of corners (loops corners));
  entries = length (report_of (grid_of pitch words) corners);
  left = record {
    grid = over (grid_of pitch words) b.grid;
    rings = over (rings_of corners (loops corners)) b.rings;
    records = over (records_of (grid_of pitch words) corners fates) b.records;
    report = over (entry_numbers (report_of (grid_of pitch words) corners)) b.report;
  };
}

-- "grid 1, ring vertices 2, loop records 3 (as the patcher's) and the report 4 (2T entries)", of two numbers each
abbrev pub needs : List ℕ → List ℕ → List ℕ
needs words corners = length words ∷ length corners ∷ limits.record_numbers * (length corners / 3) ∷ 4 * (length corners / 3) ∷ []

abbrev pub lent : Buffers → List ℕ
lent b = length b.grid ∷ length b.rings ∷ length b.records ∷ length b.report ∷ []

-- done, with the fates that the course gives the loops
abbrev pub Completes : ℕ → List ℕ → List ℕ → Buffers → Outcome → Type 0
Completes pitch words corners b o =
    (fates : List Fate) × Course (grid_of pitch words) corners [] (rim_list (grid_of pitch words) corners) (ring_list corners) fates
    × (o ≡ done pitch words corners fates b)

-- refused, or done
abbrev pub ChartsIf : Bool → Answer → ℕ → List ℕ → List ℕ → Buffers → Outcome → Type 0
ChartsIf true a pitch words corners b o = o ≡ refused a b
ChartsIf false a pitch words corners b o = Completes pitch words corners b o

abbrev pub Charts : ℕ → List ℕ → List ℕ → Buffers → Outcome → Type 0
Charts pitch words corners b o =
    let a = refusal pitch words corners (lent b) (needs words corners) in
    ChartsIf (refusing a) a pitch words corners b o
