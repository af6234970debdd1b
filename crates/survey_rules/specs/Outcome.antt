-- What a survey leaves and answers: the grid, and the rings and lengths of all loops; or a refusal, and everything as it was.
use Rattle.std.specs.Prelude.{cond, List, [], ◌∷◌, map, ℕ, ◌/◌, ℤ, length, Result, Ok, Err}
use Rattle.base_answers.specs.Numbers.{refusing}
use Rattle.base_answers.specs.declared.Refusal.{Refusal}
use Rattle.base_answers.specs.declared.Answer.{Answer}
use Rattle.base_answers.specs.declared.Answer.TheVariants.{Refused}
use Rattle.base_answers.specs.declared.Answer.TheVariants.{Done}
use Rattle.surface_rules.specs.Buffers.{over}
use Rattle.surface_rules.specs.Refusals.{refusal}
use Rattle.loop_rules.specs.Loops.{loops}
use Rattle.loop_cut.specs.Listing.{rings_of}
use Rattle.survey_grid.specs.Grid.{grid_of}
use Rattle.survey_rules.specs.declared.Surveyed.{Surveyed}

-- the lent buffers 1 to 3
pub record Buffers : Type 0 where
  pub grid : List ℤ
  pub rings : List ℕ
  pub lengths : List ℕ

-- the answer, the counts, and the buffers as they are left
pub record Outcome : Type 0 where
  pub answer : Answer
  pub loops : ℕ
  pub vertices : ℕ
  pub left : Buffers

abbrev pub buffers : List ℤ → List ℕ → List ℕ → Buffers
buffers grid rings lengths = record { grid = grid; rings = rings; lengths = lengths }

-- "A refusal ... leaves all buffers untouched and has zero in every count."
abbrev pub refused : Answer → Buffers → Outcome
refused a b = record { answer = a; loops = 0; vertices = 0; left = b }

-- what is answered, with what is left
abbrev pub outcome : Result Surveyed Refusal → Buffers → Outcome
outcome (Ok s) b = record { answer = Done; loops = s.loops; vertices = s.vertices; left = b }
outcome (Err r) b = refused (Refused r) b

-- the grid, and the rings and lengths of all loops, each from its buffer's start
abbrev pub done : ℕ → List ℕ → List ℕ → Buffers → Outcome
done pitch words corners b = record {
  answer = Done;
  loops = length (loops corners);
  vertices = length (rings_of corners (loops corners));
  left = record { grid = over (grid_of pitch words) b.grid; rings = over (rings_of corners (loops corners)) b.rings; lengths = over (map length (loops corners)) b.lengths };
}

-- buffer 1 need have W numbers, buffer 2 3T, buffer 3 T
abbrev pub needs : List ℕ → List ℕ → List ℕ
needs words corners = length words ∷ length corners ∷ length corners / 3 ∷ []

abbrev pub lent : Buffers → List ℕ
lent b = length b.grid ∷ length b.rings ∷ length b.lengths ∷ []

unfoldable pub survey_of : ℕ → List ℕ → List ℕ → Buffers → Outcome
survey_of pitch words corners b =
    let a = refusal pitch words corners (lent b) (needs words corners) in
    cond (refusing a) (refused a b) (done pitch words corners b)
