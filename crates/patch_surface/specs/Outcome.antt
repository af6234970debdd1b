-- What the patcher leaves and answers: the grid, the loops, and what became of each; or a refusal, and everything as it was.
use Rattle.std.specs.Prelude.{◌≡◌, Bool, true, false, List, [], ◌∷◌, ℕ, ◌*◌, ◌/◌, ℤ, length, Result, Ok, Err}
use Rattle.base_answers.specs.Numbers.{refusing}
use Rattle.base_answers.specs.declared.Refusal.{Refusal}
use Rattle.base_answers.specs.declared.Answer.{Answer}
use Rattle.base_answers.specs.declared.Answer.TheVariants.{Refused}
use Rattle.base_answers.specs.declared.Answer.TheVariants.{Done}
use Rattle.base_limits.specs.Limits as limits
use Rattle.surface_rules.specs.Buffers.{over}
use Rattle.surface_rules.specs.Refusals.{refusal}
use Rattle.loop_rules.specs.Loops.{loops}
use Rattle.loop_cut.specs.Listing.{rings_of}
use Rattle.survey_grid.specs.Grid.{grid_of}
use Rattle.rim_rules.specs.Rims.{rim_list}
use Rattle.fill_fates.specs.Fates.{Fate}
use Rattle.fill_fates.specs.Course.{Course, ring_list, laid_by}
use Rattle.patch_records.specs.Records.{records_of}
use Rattle.patch_surface.specs.declared.Patched.{Patched}

-- the lent buffers 1 to 4
pub record Buffers : Type 0 where
  pub grid : List ℤ
  pub rings : List ℕ
  pub records : List ℕ
  pub patches : List ℕ

-- the answer, the counts, and the buffers as they are left
pub record Outcome : Type 0 where
  pub answer : Answer
  pub loops : ℕ
  pub vertices : ℕ
  pub corners : ℕ
  pub left : Buffers

abbrev pub buffers : List ℤ → List ℕ → List ℕ → List ℕ → Buffers
buffers grid rings records patches = record { grid = grid; rings = rings; records = records; patches = patches }

-- "A refusal ... leaves all buffers untouched and has zero in every count."
abbrev pub refused : Answer → Buffers → Outcome
refused a b = record { answer = a; loops = 0; vertices = 0; corners = 0; left = b }

-- what is answered, with what is left
abbrev pub outcome : Result Patched Refusal → Buffers → Outcome
outcome (Ok p) b = record { answer = Done; loops = p.loops; vertices = p.vertices; corners = p.corners; left = b }
outcome (Err r) b = refused (Refused r) b

-- "Each is written from its start, grid wholly, the rest as far as used; everything after that stays."
abbrev pub done : ℕ → List ℕ → List ℕ → List Fate → Buffers → Outcome
done pitch words corners fates b = record {
  answer = Done;
  loops = length (loops corners);
  vertices = length (rings_of corners (loops corners));
  corners = length (laid_by (ring_list corners) fates);
  left = record {
    grid = over (grid_of pitch words) b.grid;
    rings = over (rings_of corners (loops corners)) b.rings;
    records = over (records_of (grid_of pitch words) corners fates) b.records;
    patches = over (laid_by (ring_list corners) fates) b.patches;
  };
}

-- "1 grid (... at least W), 2 ring vertices (3T)"; "buffers 3 to 5 become one buffer of loop records, number 3; patch corners become number 4" (9T)
abbrev pub needs : List ℕ → List ℕ → List ℕ
needs words corners = length words ∷ length corners ∷ limits.record_numbers * (length corners / 3) ∷ 3 * length corners ∷ []

abbrev pub lent : Buffers → List ℕ
lent b = length b.grid ∷ length b.rings ∷ length b.records ∷ length b.patches ∷ []

-- done, with the fates that the course gives the loops
abbrev pub Completes : ℕ → List ℕ → List ℕ → Buffers → Outcome → Type 0
Completes pitch words corners b o =
    (fates : List Fate) × Course (grid_of pitch words) corners [] (rim_list (grid_of pitch words) corners) (ring_list corners) fates
    × (o ≡ done pitch words corners fates b)

-- refused, or done
abbrev pub PatchesIf : Bool → Answer → ℕ → List ℕ → List ℕ → Buffers → Outcome → Type 0
PatchesIf true a pitch words corners b o = o ≡ refused a b
PatchesIf false a pitch words corners b o = Completes pitch words corners b o

abbrev pub Patches : ℕ → List ℕ → List ℕ → Buffers → Outcome → Type 0
Patches pitch words corners b o =
    let a = refusal pitch words corners (lent b) (needs words corners) in
    PatchesIf (refusing a) a pitch words corners b o
