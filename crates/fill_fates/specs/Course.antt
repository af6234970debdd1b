-- The course. "Loops are handled in listed order." A patch that was laid bars diagonals of the loops after it.
use Rattle.std.specs.Prelude.{Bool, List, [], ◌∷◌, ◌++◌, map, ℕ, ℤ}
use Rattle.loop_rules.specs.Loops.{loops, ring}
use Rattle.fill_fates.specs.Fates.{Fate, state_of, weighs, lays, Becomes}

-- the rings of all loops of the surface, in listed order
abbrev pub ring_list : List ℕ → List (List ℕ)
ring_list corners = map (ring corners) (loops corners)

-- what all loops weigh, in listed order, and all corners that they lay
abbrev pub weights_of : List ℤ → List (List ℕ) → List Fate → List ℕ
weights_of grid [] fates = []
weights_of grid (r ∷ rings) [] = []
weights_of grid (r ∷ rings) (f ∷ fates) = weighs grid r f ∷ weights_of grid rings fates

abbrev pub laid_by : List (List ℕ) → List Fate → List ℕ
laid_by [] fates = []
laid_by (r ∷ rings) [] = []
laid_by (r ∷ rings) (f ∷ fates) = lays r f ++ laid_by rings fates

module _ (grid : List ℤ) (input : List ℕ) where
  -- each loop, a rim or not, meets its fate, with what was laid before it
  abbrev pub Course : List ℕ → List Bool → List (List ℕ) → List Fate → Type 0
  Course laid [] [] [] = Unit {0}
  Course laid [] [] (f ∷ fates) = ⊥
  Course laid [] (r ∷ rings) fates = ⊥
  Course laid (k ∷ rims) [] fates = ⊥
  Course laid (k ∷ rims) (r ∷ rings) [] = ⊥
  Course laid (k ∷ rims) (r ∷ rings) (f ∷ fates) = Becomes grid input laid k r f × Course (laid ++ lays r f) rims rings fates

abbrev pub states_of : List Fate → List ℕ
states_of fates = map state_of fates
