-- What the pairing of a whole surface answers and leaves.
use Rattle.std.specs.Prelude.{◌≡◌, List, ℕ, length, Option, None}
use Rattle.surface_rules.specs.Smallest.{least}
use Rattle.surface_twins.specs.Workings.Turns.{stops, Turns}

-- what the pairing answers, and the table where it came to the end
pub record Paired (corners : List ℕ) (found : Option ℕ) (table : List ℕ) : Type 0 where
  pub answer : found ≡ least (stops corners) (length corners)
  pub turns : found ≡ None → Turns corners table
