-- Demand 3, of patch sets: when the checker passes one, that it passes our own patcher's, and what the edges are afterwards.
use Rattle.std.specs.Prelude.{◌≡◌, true, false, ◌⊎◌, ℕ, zero, suc, ◌+◌, ◌*◌, ◌<◌, ◌≤◌, ℤ, length, get_or, take, drop}
use mathlib.Core.List.{List, [], ◌∷◌, map, flatten}
use Rattle.base_answers.specs.Numbers.{refusing}
use Rattle.base_answers.specs.declared.Answer.TheVariants.{Done}
use Rattle.base_limits.specs.States as stated
use Rattle.surface_rules.specs.Refusals.{buffer_refusal, refusal}
use Rattle.loop_rules.specs.Loops.{loops}
use Rattle.survey_grid.specs.Grid.{grid_of}
use Rattle.survey_rules.specs.Outcome as survey
use Rattle.rim_pieces.specs.Computed.{numbers_below}
use Rattle.rim_rules.specs.Rims.{is_rim}
use Rattle.fill_fates.specs.Course.{ring_list}
use Rattle.judge_rules.specs.Faults.{RightIf}
use Rattle.judge_rules.specs.Verdicts.{taken, parts}
use Rattle.patch_records.specs.Records.{record_in}
use Rattle.patch_surface.specs.Outcome as patcher
use Rattle.judge_surface.specs.Outcome.{Judges}
use Rattle.demands.specs.Closing.{ClosingDemand, laid_in}

-- ---- demand 3's condition

-- how many corners of the set the first l loops take
abbrev pub begins : List (List ℕ) → List ℕ → ℕ → ℕ
begins rings states zero = 0
begins [] states (suc l) = 0
begins (r ∷ rings) [] (suc l) = 0
begins (r ∷ rings) (s ∷ states) (suc l) = taken r s + begins rings states l

-- "No corner is left over and, loop by loop, each loop ..." that is no rim is right, with the triangles of the loops before it laid, and the
-- corners from there on; and "each rim must be declared 4"
pub record Passable (grid : List ℤ) (corners states set : List ℕ) : Type 0 where
  pub declared : length states ≡ length (loops corners)
  pub none_left : length set ≡ begins (ring_list corners) states (length (loops corners))
  pub each : (l : ℕ) → l < length (loops corners)
      → RightIf grid corners (take (begins (ring_list corners) states l) set) (is_rim grid corners l)
      (get_or (ring_list corners) l []) (get_or states l 0) (drop (begins (ring_list corners) states l) set)

-- ---- the edges afterwards

-- what each loop takes of the set
abbrev pub parts_taken : List ℕ → List ℕ → List ℕ → List (List ℕ)
parts_taken corners states set = parts (ring_list corners) states set

-- "declared open or long", or a rim
abbrev pub DeclaredOpen : ℕ → Type 0
DeclaredOpen state = (state ≡ stated.long) ⊎ ((state ≡ stated.left_open) ⊎ (state ≡ stated.rim))

pub record Closes (grid : List ℤ) (corners states set : List ℕ) : Type 0 where
  -- the loops take the whole set,
  pub whole : flatten (parts_taken corners states set) ≡ set
  -- "no directed edge occurs twice and the only open edges are those of loops" that take nothing,
  pub closing : ClosingDemand corners (parts_taken corners states set)
  -- and these are the loops "declared open or long", and the rims: "the open edges that remain include the rims'".
  pub open_or_long : (l : ℕ) → l < length (loops corners) → laid_in (parts_taken corners states set) l ≡ [] → DeclaredOpen (get_or states l 0)
  pub takes_nothing : (l : ℕ) → DeclaredOpen (get_or states l 0) → laid_in (parts_taken corners states set) l ≡ []
  -- "each rim must be declared 4", and nothing else is
  pub rims_declared : (l : ℕ) → l < length (loops corners) → is_rim grid corners l ≡ true → get_or states l 0 ≡ 4
  pub only_rims : (l : ℕ) → l < length (loops corners) → get_or states l 0 ≡ 4 → is_rim grid corners l ≡ true

-- ---- the checker

-- what holds of every outcome o of the checker
pub record CheckerDemand (pitch : ℕ) (words corners states set : List ℕ) (b : survey.Buffers) (o : survey.Outcome) : Type 0 where
  -- It passes a set only when the condition holds,
  pub passed_only : o.answer ≡ Done → Passable (grid_of pitch words) corners states set
  -- and then always, where it does not refuse the surface or the buffers.
  pub passed_always : refusing (refusal pitch words corners (survey.lent b) (survey.needs words corners)) ≡ false
      → Passable (grid_of pitch words) corners states set → o.answer ≡ Done
  -- After a passed set, anybody's:
  pub closes : o.answer ≡ Done → Closes (grid_of pitch words) corners states set

-- ---- the patcher

-- the states and the set that the patcher leaves
abbrev pub states_left : patcher.Outcome → List ℕ
states_left o = map (λ (l : ℕ). (record_in o.left.records l).state) (numbers_below o.loops)

abbrev pub set_left : patcher.Outcome → List ℕ
set_left o = take o.corners o.left.patches

-- what holds of every outcome o of the patcher that is no refusal
pub record PatcherDemand (pitch : ℕ) (words corners : List ℕ) (o : patcher.Outcome) : Type 0 where
  -- The patch corners are no more than 9 a triangle.
  pub fits : o.corners ≤ 3 * length corners
  -- "Our own patcher's sets pass", whatever buffers the checker is lent, if they are long enough.
  pub passes : (b : survey.Buffers) (p : survey.Outcome) → buffer_refusal (survey.lent b) (survey.needs words corners) ≡ Done
      → Judges pitch words corners (states_left o) (set_left o) b p → p.answer ≡ Done
  -- After the course:
  pub closes : Closes (grid_of pitch words) corners (states_left o) (set_left o)
