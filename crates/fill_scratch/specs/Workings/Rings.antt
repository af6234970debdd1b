-- The loops of a surface by their rings, as the code that goes from loop to loop takes them.
use Rattle.std.specs.Prelude.{◌≡◌, Bool, true, false, ◌⊎◌, ℕ, ◌+◌, ◌-◌, ◌%◌, ◌<◌, ◌≤◌, eqb, ℤ, length, get_or, take, drop}
use mathlib.Core.List.{List, [], map, flatten}
use Rattle.base_limits.specs.Limits as limits
use Rattle.cover_weight.specs.Weight.{Coordinates, Names}
use Rattle.cover_bars.specs.Bars.{between}
use Rattle.fill_fates.specs.Fates.{state_of, rim}

-- the ring of a loop of the input: three or more different points on the grid, each joined to the next by the input
pub record RingOf (grid : List ℤ) (input ring : List ℕ) : Type 0 where
  pub coordinates : Coordinates grid
  pub named : (j : ℕ) → j < length ring → Names grid (get_or ring j 0)
  pub inside : (j : ℕ) → j < length ring → get_or ring j 0 < limits.points
  pub three : 3 ≤ length ring
  pub apart : (i j : ℕ) → i < length ring → j < length ring → get_or ring i 0 ≡ get_or ring j 0 → i ≡ j
  pub sides : (j : ℕ) → j + 1 < length ring → between input (get_or ring j 0) (get_or ring (j + 1) 0) ≡ true
  pub closing : between input (get_or ring (length ring - 1) 0) (get_or ring 0 0) ≡ true

-- the loops of the input by their rings, which stand one after the other, and by their lengths
pub record Loops (grid : List ℤ) (input : List ℕ) (rs : List (List ℕ)) (rings lengths : List ℕ) : Type 0 where
  pub rings_are : rings ≡ flatten rs
  pub lengths_are : lengths ≡ map length rs
  pub each : (l : ℕ) → l < length rs → RingOf grid input (get_or rs l [])
  pub few : length rings ≤ length input
  pub few_loops : length rs ≤ limits.triangles

-- where loop l and its ring stand, if the rings before it have r vertices
pub record RingPlace (rings lengths : List ℕ) (l r : ℕ) : Type 0 where
  pub ring_in : r + get_or lengths l 0 ≤ length rings
  pub rings_few : length rings ≤ limits.corners
  pub loop_in : l < limits.triangles
  pub three : 3 ≤ get_or lengths l 0
  pub part_long : length (take (r + get_or lengths l 0 - r) (drop r rings)) ≡ get_or lengths l 0

-- the input's corners
pub record Input (input : List ℕ) : Type 0 where
  pub whole : length input % 3 ≡ 0
  pub few : length input ≤ limits.corners
  pub inside : (i : ℕ) → i < length input → get_or input i 0 < limits.points

-- Which loops are rims, as it stands among the states before the course: the mark of a rim is its state, and that of any other loop is another
-- number.
abbrev pub rim_mark : ℕ
rim_mark = state_of rim

pub record Marks (rims : List Bool) (marks : List ℕ) : Type 0 where
  pub long : length rims ≤ length marks
  pub told : (l : ℕ) → l < length rims → eqb (get_or marks l 0) rim_mark ≡ get_or rims l false

-- each loop is of three, or long, or a rim
abbrev pub SightAt : List ℕ → List ℕ → ℕ → Type 0
SightAt lengths marks l = (get_or lengths l 0 ≤ 3) ⊎ ((limits.longest < get_or lengths l 0) ⊎ (get_or marks l 0 ≡ rim_mark))

abbrev pub AtSight : List ℕ → List ℕ → Type 0
AtSight lengths marks = (l : ℕ) → l < length lengths → SightAt lengths marks l

-- each loop is settled at sight or has at most so many edges
abbrev pub Within : ℕ → List ℕ → List ℕ → Type 0
Within most lengths marks = (l : ℕ) → l < length lengths → SightAt lengths marks l ⊎ (get_or lengths l 0 ≤ most)
