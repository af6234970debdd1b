-- What pairing triangle by triangle takes and leaves; Outcome.antt has what pairing all answers.
use Rattle.std.specs.Prelude.{◌≡◌, Bool, true, false, ◌||◌, List, ℕ, ◌+◌, ◌*◌, ◌/◌, ◌%◌, ◌≤◌, ◌<◌, eqb, length, Option, None}
use Rattle.base_limits.specs.Limits as limits
use Rattle.surface_rules.specs.Smallest.{least}
use Rattle.surface_rules.specs.Edges.{twice}
use Rattle.surface_twins.specs.Workings.Turns.{stops}
use Rattle.surface_twins.specs.Workings.Chains.{Going}

-- ---- buckets

abbrev pub buckets : ℕ
buckets = 4096

-- what is enough for few corners
abbrev pub few_corners : ℕ
few_corners = 48

abbrev pub few_buckets : ℕ
few_buckets = 32

-- ---- few corners

-- r is where the first triangle begins that names a point twice, or the end
pub record ProperTo (corners : List ℕ) (r : ℕ) : Type 0 where
  pub within : r ≤ length corners
  pub first : r % 3 ≡ 0
  pub proper : (t : ℕ) → 3 * t < r → twice corners t ≡ false
  pub there : r < length corners → twice corners (r / 3) ≡ true

-- h is of the triangle whose first half-edge is i
pub record AfterRoom (h i : ℕ) : Type 0 where
  pub first : i % 3 ≡ 0
  pub from : i ≤ h
  pub to : h < i + 3
  pub small : h < limits.corners

-- ---- triangle after triangle

-- two of a triangle's corners are alike
unfoldable pub alike : ℕ → ℕ → ℕ → Bool
alike a b c = eqb a b || eqb b c || eqb c a

-- the triangle whose first half-edge is i is the next
pub record TriangleRoom (size : ℕ) (corners : List ℕ) (i : ℕ) (heads links ends table : List ℕ) : Type 0 where
  pub going : Going size corners i heads links ends table
  pub edge : i < length corners
  pub first : i % 3 ≡ 0

pub record TriangleDone (size : ℕ) (corners : List ℕ) (i : ℕ) (stop : Option ℕ) (heads links ends table : List ℕ) : Type 0 where
  pub answer : stop ≡ least (stops corners) (i + 3)
  pub going : stop ≡ None → Going size corners (i + 3) heads links ends table
