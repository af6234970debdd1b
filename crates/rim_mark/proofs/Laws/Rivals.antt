-- Loop after loop takes the seat of its piece, or is flagged beside the one that has it.
use mathlib.Core.Path.{◌≡◌}
use mathlib.Core.Logic.{◌⊎◌}
use mathlib.Core.List.{List}
use Prim.Native.Nat.{ℕ, ◌<◌}
use lib.ListN.{length, get_or}
use Rattle.rim_pieces.specs.Workings.Flooding.{none}

-- of the first k loops b has the seat of piece p, and if another is of it both are flagged
pub record Seat (homes runs : List ℕ) (k p b : ℕ) : Type 0 where
  pub here : b < k
  pub home : get_or homes b 0 ≡ p
  pub flagged : (m : ℕ) → m < k → get_or homes m 0 ≡ p → (m ≡ b → ⊥) → (get_or runs m 0 ≡ 0 → ⊥) × (get_or runs b 0 ≡ 0 → ⊥)

-- or none has it
abbrev Seated : List ℕ → List ℕ → ℕ → ℕ → ℕ → Type 0
Seated homes runs k p b = ((b ≡ none) × ((m : ℕ) → m < k → get_or homes m 0 ≡ p → ⊥)) ⊎ Seat homes runs k p b

pub record Matched (homes : List ℕ) (n many long l : ℕ) (firsts runs : List ℕ) : Type 0 where
  pub kept : length firsts ≡ many
  pub runs_kept : length runs ≡ long
  pub seated : (j : ℕ) → j < n → Seated homes runs l (get_or homes j 0) (get_or firsts (get_or homes j 0) 0)
