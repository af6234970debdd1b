-- Loop after loop takes its piece's place, or leaves it to the one that stands there.
use mathlib.Core.Path.{◌≡◌}
use mathlib.Core.Logic.{◌⊎◌}
use mathlib.Core.List.{List}
use Prim.Native.Nat.{ℕ, ◌/◌, ◌<◌}
use lib.ListN.{length, get_or}
use Rattle.rim_pieces.specs.Workings.Flooding.{none}
use Rattle.rim_mark.specs.Workings.Ranking.{First}

-- ---- the piece of each loop

pub record Housed (firsts pieces : List ℕ) (many l : ℕ) (homes : List ℕ) : Type 0 where
  pub kept : length homes ≡ many
  pub told : (j : ℕ) → j < l → get_or homes j 0 ≡ get_or pieces (get_or firsts j 0 / 3) 0

-- ---- the first of each piece

-- what stands for piece p once k loops were seen
abbrev Stands : List ℕ → List ℕ → ℕ → ℕ → ℕ → Type 0
Stands homes runs k p b = ((b ≡ none) × ((m : ℕ) → m < k → get_or homes m 0 ≡ p → ⊥)) ⊎ First homes runs p k b

pub record Ranked (homes runs : List ℕ) (n many l : ℕ) (best : List ℕ) : Type 0 where
  pub kept : length best ≡ many
  pub stands : (j : ℕ) → j < n → Stands homes runs l (get_or homes j 0) (get_or best (get_or homes j 0) 0)
