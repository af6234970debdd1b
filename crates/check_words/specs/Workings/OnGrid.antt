-- What is known of words that are on the grid.
use Rattle.std.specs.Prelude.{◌≡◌, List, ℕ, length, None}
use Rattle.surface_rules.specs.Smallest.{least}
use Rattle.surface_rules.specs.Refusals.{not_finite, too_far}

-- what holds of the words once the refusals 7 and 8 were not given
pub record OnGrid (pitch : ℕ) (words : List ℕ) : Type 0 where
  pub numbers : least (not_finite words) (length words) ≡ None
  pub near : least (too_far pitch words) (length words) ≡ None
