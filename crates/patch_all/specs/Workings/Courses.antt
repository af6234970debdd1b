-- The course over all loops, as the code takes it.
use Rattle.std.specs.Prelude.{◌≡◌, Bool, ℕ, ◌*◌, ◌≤◌, ℤ, length, take}
use mathlib.Core.List.{List, [], flatten}
use Rattle.surface_rules.specs.Buffers.{over}
use Rattle.fill_fates.specs.Fates.{Fate}
use Rattle.fill_fates.specs.Course.{Course, states_of, weights_of, laid_by}
use Rattle.fill_scratch.specs.Workings.Rings.{Loops, Input, Marks}

-- what the course writes: a state and a weight for each loop, and the corners of the patches
pub record Docket : Type 0 where
  pub states : List ℕ
  pub weights : List ℕ
  pub patches : List ℕ

abbrev pub docket : List ℕ → List ℕ → List ℕ → Docket
docket states weights patches = record { states = states; weights = weights; patches = patches }

-- room for what the loops leave; before the course the rims are marked among the states
pub record Lent (rims : List Bool) (rs : List (List ℕ)) (c : Docket) : Type 0 where
  pub rims_many : length rims ≡ length rs
  pub marked : Marks rims c.states
  pub states_room : length rs ≤ length c.states
  pub weights_room : length rs ≤ length c.weights
  pub patches_room : 3 * length (flatten rs) ≤ length c.patches

pub record CourseRoom (grid : List ℤ) (input rings lengths : List ℕ) (c : Docket) : Type 0 where
  pub rims : List Bool
  pub rs : List (List ℕ)
  pub loops : Loops grid input rs rings lengths
  pub lent : Lent rims rs c
  pub corners : Input input

-- the first l loops ran: r ring vertices were read and p corners laid
pub record Ran (grid : List ℤ) (input : List ℕ) (rims : List Bool) (rs : List (List ℕ)) (c₀ : Docket) (l r p : ℕ) (c : Docket) : Type 0 where
  pub most : l ≤ length rs
  pub fates : List Fate
  pub course : Course grid input [] (take l rims) (take l rs) fates
  pub read : r ≡ length (flatten (take l rs))
  pub count : p ≡ length (laid_by (take l rs) fates)
  pub states_are : c.states ≡ over (states_of fates) c₀.states
  pub weights_are : c.weights ≡ over (weights_of grid (take l rs) fates) c₀.weights
  pub patches_are : c.patches ≡ over (laid_by (take l rs) fates) c₀.patches

-- all loops ran
pub record RanAll (grid : List ℤ) (input : List ℕ) (rims : List Bool) (rs : List (List ℕ)) (c₀ : Docket) (p : ℕ) (c : Docket) : Type 0 where
  pub fates : List Fate
  pub course : Course grid input [] rims rs fates
  pub count : p ≡ length (laid_by rs fates)
  pub states_are : c.states ≡ over (states_of fates) c₀.states
  pub weights_are : c.weights ≡ over (weights_of grid rs fates) c₀.weights
  pub patches_are : c.patches ≡ over (laid_by rs fates) c₀.patches

-- whatever loops they are
abbrev pub CourseDone : List ℤ → List ℕ → List ℕ → List ℕ → Docket → ℕ → Docket → Type 0
CourseDone grid input rings lengths c p c' =
    (rims : List Bool) (rs : List (List ℕ)) → Loops grid input rs rings lengths → Lent rims rs c → RanAll grid input rims rs c p c'
