-- What is found of a loop, and of one that is judged at sight.
use Rattle.std.specs.Prelude.{◌≡◌, Bool, true, false, ◌⊎◌, List, ℕ, ◌<◌, ◌≤◌, ℤ, length, get_or, drop}
use Rattle.base_answers.specs.declared.Answer.{Answer}
use Rattle.base_answers.specs.declared.Answer.TheVariants.{Done}
use Rattle.base_limits.specs.Limits as limits
use Rattle.cover_rules.specs.Covers.{Triangle, on}
use Rattle.cover_rules.specs.Sets.{Alike}
use Rattle.judge_rules.specs.Faults.{Right, Fault}

-- what is said of a loop: done, and the loop is right; or the fault that it has
pub data Finds (grid : List ℤ) (input laid : List ℕ) (l : ℕ) (ring : List ℕ) (state : ℕ) (set : List ℕ) (a : Answer) : Type 0 where
  right : a ≡ Done → Right grid input laid ring state set → Finds grid input laid l ring state set a
  fault : Fault grid input laid l ring state set a → Finds grid input laid l ring state set a

-- a loop of three or a long one
pub record SightRoom (ring set : List ℕ) (at : ℕ) : Type 0 where
  pub sight : (length ring ≡ 3) ⊎ (limits.longest < length ring)
  pub within : at ≤ length set

-- whatever the grid, the input and the triangles before it are
abbrev pub FindsAtSight : List ℕ → ℕ → List ℕ → ℕ → ℕ → Answer → Type 0
FindsAtSight ring state set at l a = (grid : List ℤ) (input laid : List ℕ) → Finds grid input laid l ring state (drop at set) a

-- whether the triangle is the ring of three, wound against it and begun at any corner
abbrev pub WoundAgainst : List ℕ → Triangle → Bool → Type 0
WoundAgainst ring t true = Alike t (on (get_or ring 0 0) (get_or ring 2 0) (get_or ring 1 0))
WoundAgainst ring t false = Alike t (on (get_or ring 0 0) (get_or ring 2 0) (get_or ring 1 0)) → ⊥
