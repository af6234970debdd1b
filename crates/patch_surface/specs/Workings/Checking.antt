-- What lies between the checks and the patching of a surface that passed them.
use Rattle.std.specs.Prelude.{◌≡◌, true, false, List, ℕ, ◌*◌, ◌/◌, ◌<◌, ◌≤◌, ℤ, length, get_or, Ok}
use Rattle.base_answers.specs.Numbers.{refusing}
use Rattle.base_answers.specs.declared.Answer.{Answer}
use Rattle.base_answers.specs.declared.Answer.TheVariants.{Done}
use Rattle.base_limits.specs.Limits as limits
use Rattle.surface_rules.specs.Buffers.{over}
use Rattle.surface_rules.specs.Refusals.{count_refusal, refusal}
use Rattle.check_words.specs.Workings.OnGrid.{OnGrid}
use Rattle.check_surface.specs.Workings.Checks.{Woven}
use Rattle.survey_grid.specs.Grid.{grid_of}
use Rattle.patch_surface.specs.Outcome.{Buffers, buffers, lent, needs, outcome, Completes}
use Rattle.patch_surface.specs.declared.Patched.{Patched}

-- a surface that passed the checks, with its table of turns and its grid
pub record Checked (pitch : ℕ) (words corners turns : List ℕ) (grid : List ℤ) : Type 0 where
  pub counts : count_refusal (length words) (length corners) ≡ Done
  pub woven : Woven corners (length words / 3) turns
  pub on_grid : OnGrid pitch words
  pub gridded : grid ≡ grid_of pitch words

-- Of the lent buffers the grid is the first, and it need be as long as the words.
pub record GridFirst (words lent needs : List ℕ) (grid : List ℤ) : Type 0 where
  pub lent_grid : get_or lent 0 0 ≡ length grid
  pub needs_words : get_or needs 0 0 ≡ length words
  pub some : 1 ≤ length needs

-- no check refused, each buffer is as long as it need be, and the grid was laid
pub record PassedWith (pitch : ℕ) (words corners lent needs : List ℕ) (grid : List ℤ) (turns : List ℕ) (grid' : List ℤ) : Type 0 where
  pub none_refused : refusal pitch words corners lent needs ≡ Done
  pub checked : Checked pitch words corners turns (grid_of pitch words)
  pub long : (i : ℕ) → i < length needs → get_or needs i 0 ≤ get_or lent i 0
  pub laid : grid' ≡ over (grid_of pitch words) grid

-- a refusal, with the grid as it was; or none
abbrev pub ChecksWith : ℕ → List ℕ → List ℕ → List ℕ → List ℕ → List ℤ → Answer → List ℕ → List ℤ → Type 0
ChecksWith pitch words corners lent needs grid r turns grid' =
    (refusing r ≡ true → (r ≡ refusal pitch words corners lent needs) × (grid' ≡ grid))
    × (refusing r ≡ false → PassedWith pitch words corners lent needs grid turns grid')

-- room for what is left of it besides the grid
pub record Roomy (corners rings records patches : List ℕ) : Type 0 where
  pub rings_long : length corners ≤ length rings
  pub records_long : limits.record_numbers * (length corners / 3) ≤ length records
  pub patches_long : 3 * length corners ≤ length patches

-- of the patcher's own buffers: no check refused, and the grid was laid
pub record Passed (pitch : ℕ) (words corners : List ℕ) (b : Buffers) (turns : List ℕ) (grid' : List ℤ) : Type 0 where
  pub none_refused : refusal pitch words corners (lent b) (needs words corners) ≡ Done
  pub checked : Checked pitch words corners turns (grid_of pitch words)
  pub roomy : Roomy corners b.rings b.records b.patches
  pub laid : grid' ≡ over (grid_of pitch words) b.grid

-- a refusal, with the grid as it was; or none
abbrev pub Checks : ℕ → List ℕ → List ℕ → Buffers → Answer → List ℕ → List ℤ → Type 0
Checks pitch words corners b r turns grid' =
    (refusing r ≡ true → (r ≡ refusal pitch words corners (lent b) (needs words corners)) × (grid' ≡ b.grid))
    × (refusing r ≡ false → Passed pitch words corners b turns grid')

-- Scratch for the patching: a place for each point, and there also a piece for each triangle, a length, a state, a first half-edge and a run for
-- each loop. Turns and path are twice as long as they need be for a turn and an edge of the path for each corner: once the rims are marked
-- they become the links and the ends of the chained edges, with room for the input's edges and for as many diagonals.
pub record Bench (points : ℕ) (corners turns path places lengths states firsts runs : List ℕ) : Type 0 where
  pub turns_long : 2 * length corners ≤ length turns
  pub path_long : 2 * length corners ≤ length path
  pub places_long : points ≤ length places
  pub pieces_long : length corners / 3 ≤ length places
  pub lengths_long : length corners / 3 ≤ length lengths
  pub states_long : length corners / 3 ≤ length states
  pub firsts_long : length corners / 3 ≤ length firsts
  pub runs_long : length corners / 3 ≤ length runs

-- a surface that passed the checks, and room; which pitch and words those were does not matter
pub record PatchRoom (corners turns : List ℕ) (grid : List ℤ) (rings records patches : List ℕ) : Type 0 where
  pub pitch : ℕ
  pub words : List ℕ
  pub checked : Checked pitch words corners turns grid
  pub roomy : Roomy corners rings records patches

-- whichever they were, what is left is what the patcher leaves, wherever the grid was laid
abbrev pub Finishes : List ℕ → List ℕ → List ℤ → Buffers → Patched → Buffers → Type 0
Finishes corners turns grid b r b' =
    (pitch : ℕ) (words : List ℕ) → Checked pitch words corners turns grid → (before : List ℤ)
    → Completes pitch words corners (buffers before b.rings b.records b.patches)
    (outcome (Ok r) (buffers (over (grid_of pitch words) before) b'.rings b'.records b'.patches))
