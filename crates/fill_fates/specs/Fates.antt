-- What becomes of one loop in a course.
use Rattle.std.specs.Prelude.{◌≡◌, Bool, true, false, List, [], ℕ, ◌<◌, ◌≤◌, ℤ, length}
use Rattle.base_limits.specs.Limits as limits
use Rattle.base_limits.specs.States as stated
use Rattle.cover_rules.specs.Covers.{Cover, patch_of}
use Rattle.fill_fates.specs.Here.{NoneHere, weight_here, PatchHere}

-- "State 1: patched. State 2: long ... State 3: no allowed cover." "A rim gets state 4."
pub data Fate : Type 0 where
  patched : Cover → Fate
  long : Fate
  uncovered : Fate
  rim : Fate

abbrev pub state_of : Fate → ℕ
state_of (patched c) = stated.patched
state_of long = stated.long
state_of uncovered = stated.left_open
state_of rim = stated.rim

-- "States 2 and 3 have weight 0, lay nothing", and so has a rim: what the loop with this ring weighs, and the corners that it lays
abbrev pub weighs : List ℤ → List ℕ → Fate → ℕ
weighs grid ring (patched c) = weight_here grid ring c
weighs grid ring long = 0
weighs grid ring uncovered = 0
weighs grid ring rim = 0

abbrev pub lays : List ℕ → Fate → List ℕ
lays ring (patched c) = patch_of ring c
lays ring long = []
lays ring uncovered = []
lays ring rim = []

module _ (grid : List ℤ) (input laid : List ℕ) where
  -- The fate that the loop with this ring has, being no rim, where the input has these corners and these were laid before it: patched by the
  -- least allowed cover under the tie rule; long; or uncovered, because no allowed cover exists.
  abbrev pub Meets : List ℕ → Fate → Type 0
  Meets ring (patched c) = (length ring ≤ limits.longest) × PatchHere grid input laid ring c
  Meets ring long = limits.longest < length ring
  Meets ring uncovered = (length ring ≤ limits.longest) × NoneHere input laid ring
  Meets ring rim = ⊥

  -- "A rim gets state 4, weight 0, and is not patched at any length"; any other loop meets one of the other fates
  abbrev pub Becomes : Bool → List ℕ → Fate → Type 0
  Becomes true ring f = f ≡ rim
  Becomes false ring f = Meets ring f
