-- What is found before the verdict, and what the verdict makes of it.
use Rattle.std.specs.Prelude.{List, ℕ, ◌≤◌, length, take, Result, Ok, Err}
use Rattle.base_answers.specs.declared.Refusal.{Refusal}
use Rattle.base_answers.specs.declared.Answer.{Answer}
use Rattle.base_answers.specs.declared.Answer.TheVariants.{Refused}
use Rattle.survey_rules.specs.Outcome.{Buffers, refused}
use Rattle.survey_rules.specs.declared.Surveyed.{Surveyed}
use Rattle.fill_scratch.specs.Workings.Tray.{EdgeRoom}
use Rattle.judge_all_sight.specs.Workings.Gives.{VerdictRoom, Gives}
use Rattle.judge_surface.specs.Outcome.{Judges}

-- the verdict can be taken on the fronts of the buffers that are left (b'), of as many words, vertices and loops as there are; and whatever
-- it is of a set, with it the checker has judged what it was lent (b)
pub record Ready (pitch : ℕ) (words corners states : List ℕ) (b : Buffers) (r : Surveyed) (b' : Buffers) (marks turns path : List ℕ) : Type 0 where
  pub grid_in : length words ≤ length b'.grid
  pub rings_in : r.vertices ≤ length b'.rings
  pub lengths_in : r.loops ≤ length b'.lengths
  pub room : VerdictRoom (take (length words) b'.grid) corners (take r.vertices b'.rings) (take r.loops b'.lengths) marks states
  pub edges : EdgeRoom corners turns path
  pub finish : (set : List ℕ) (a : Answer)
      → Gives (take (length words) b'.grid) corners (take r.vertices b'.rings) (take r.loops b'.lengths) marks states set a
      → Judges pitch words corners states set b (record { answer = a; loops = r.loops; vertices = r.vertices; left = b' })

-- a refusal, with which all is judged, whatever the set; or what the verdict needs
abbrev pub Finds : ℕ → List ℕ → List ℕ → List ℕ → Buffers → Result Surveyed Refusal → Buffers → List ℕ → List ℕ → List ℕ → Type 0
Finds pitch words corners states b (Err r) b' marks turns path = (set : List ℕ) → Judges pitch words corners states set b (refused (Refused r) b')
Finds pitch words corners states b (Ok s) b' marks turns path = Ready pitch words corners states b s b' marks turns path
