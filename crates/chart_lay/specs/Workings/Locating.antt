-- Where the ring of each loop begins: behind the rings of the loops before it.
use Rattle.std.specs.Prelude.{◌≡◌, ℕ, ◌<◌, ◌≤◌, ℤ, length, get_or, take}
use mathlib.Core.List.{List, flatten}
use Rattle.base_limits.specs.Limits as limits
use Rattle.fill_scratch.specs.Workings.Rings.{Loops}

-- the lengths of loops, and room for as many places
pub record LocateRoom (lengths starts : List ℕ) : Type 0 where
  pub grid : List ℤ
  pub input : List ℕ
  pub rs : List (List ℕ)
  pub rings : List ℕ
  pub loops : Loops grid input rs rings lengths
  pub few : length input ≤ limits.corners
  pub room : length rs ≤ length starts

-- there the ring of loop l begins
abbrev pub start_at : List (List ℕ) → ℕ → ℕ
start_at rs l = length (flatten (take l rs))

-- the places of the first n loops, whichever loops they are
abbrev pub Locates : List ℕ → ℕ → List ℕ → Type 0
Locates lengths n starts' =
    (grid : List ℤ) (input : List ℕ) (rs : List (List ℕ)) (rings : List ℕ) → Loops grid input rs rings lengths
    → (l : ℕ) → l < n → get_or starts' l 0 ≡ start_at rs l
