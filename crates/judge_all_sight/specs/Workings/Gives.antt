-- The verdict over all loops, as the code takes it.
use Rattle.std.specs.Prelude.{◌≡◌, Bool, List, [], ℕ, ℤ, length}
use Rattle.base_answers.specs.declared.Answer.{Answer}
use Rattle.judge_rules.specs.Verdicts.{Verdict}
use Rattle.fill_scratch.specs.Workings.Rings.{Loops, Input, Marks, AtSight}

-- for each loop a state, and a mark that tells whether it is a rim
pub record Declared (rims : List Bool) (rs : List (List ℕ)) (marks states : List ℕ) : Type 0 where
  pub rims_many : length rims ≡ length rs
  pub marked : Marks rims marks
  pub states_many : length states ≡ length rs

pub record VerdictRoom (grid : List ℤ) (input rings lengths marks states : List ℕ) : Type 0 where
  pub rims : List Bool
  pub rs : List (List ℕ)
  pub loops : Loops grid input rs rings lengths
  pub corners : Input input
  pub declared : Declared rims rs marks states

-- the verdict, whatever loops they are
abbrev pub Gives : List ℤ → List ℕ → List ℕ → List ℕ → List ℕ → List ℕ → List ℕ → Answer → Type 0
Gives grid input rings lengths marks states set a =
    (rims : List Bool) (rs : List (List ℕ)) → Loops grid input rs rings lengths → Declared rims rs marks states → Verdict grid input [] 0 0 rims rs states set a

-- the same where each loop is of three, or long, or a rim: neither the grid nor the input matters then
pub record SightVerdictRoom (rings lengths marks states : List ℕ) : Type 0 where
  pub grid : List ℤ
  pub input : List ℕ
  pub room : VerdictRoom grid input rings lengths marks states
  pub sight : AtSight lengths marks

abbrev pub GivesAtSight : List ℕ → List ℕ → List ℕ → List ℕ → List ℕ → Answer → Type 0
GivesAtSight rings lengths marks states set a = (grid : List ℤ) (input : List ℕ) → Gives grid input rings lengths marks states set a
