-- The run of a loop by its ring, as the code adds it up.
use Rattle.std.specs.Prelude.{◌≡◌, List, [], ℕ, zero, suc, ◌+◌, ◌-◌, ◌<◌, ◌≤◌, ℤ, length, get_or}
use Rattle.base_limits.specs.Limits as limits
use Rattle.cover_weight.specs.Weight.{stride_of, Coordinates, Names}
use Rattle.fill_scratch.specs.Workings.Rings.{Loops}

-- the sum of what f says below n
unfoldable pub sum_below : (ℕ → ℕ) → ℕ → ℕ
sum_below f zero = 0
sum_below f (suc n) = sum_below f n + f n

-- the stride from position i to the next
abbrev pub stride_at : List ℤ → List ℕ → ℕ → ℕ
stride_at grid ring i = stride_of grid (get_or ring i 0) (get_or ring (suc i) 0)

-- the stride from the last position to the first, and those before it
abbrev pub closing_stride : List ℤ → List ℕ → ℕ
closing_stride grid ring = stride_of grid (get_or ring (length ring - 1) 0) (get_or ring 0 0)

unfoldable pub ring_run : List ℤ → List ℕ → ℕ
ring_run grid ring = closing_stride grid ring + sum_below (stride_at grid ring) (length ring - 1)

-- a ring of points on the grid
pub record RingRoom (grid : List ℤ) (ring : List ℕ) : Type 0 where
  pub coordinates : Coordinates grid
  pub named : (j : ℕ) → j < length ring → Names grid (get_or ring j 0)
  pub some : 1 ≤ length ring
  pub few : length ring ≤ limits.corners

-- rings one after the other, and room for their runs
pub record MeasureRoom (grid : List ℤ) (rings lengths runs : List ℕ) : Type 0 where
  pub input : List ℕ
  pub rs : List (List ℕ)
  pub loops : Loops grid input rs rings lengths
  pub few : length input ≤ limits.corners
  pub room : length rs ≤ length runs

-- the runs of all loops for which there was a number, whatever loops they are
pub record Measures (grid : List ℤ) (rings lengths runs runs' : List ℕ) : Type 0 where
  pub told : (input : List ℕ) (rs : List (List ℕ)) → Loops grid input rs rings lengths
      → (l : ℕ) → l < length rs → (get_or runs l 0 ≡ 0 → ⊥) → get_or runs' l 0 ≡ ring_run grid (get_or rs l [])

-- the runs of all loops
pub record MeasuresAll (grid : List ℤ) (rings lengths runs' : List ℕ) : Type 0 where
  pub told : (input : List ℕ) (rs : List (List ℕ)) → Loops grid input rs rings lengths
      → (l : ℕ) → l < length rs → get_or runs' l 0 ≡ ring_run grid (get_or rs l [])
