-- Demand 2, of the grid: "Grid points ... are those of" the scope, and at a coarser pitch those of request (iv).
use Rattle.std.specs.Prelude.{◌≡◌, Bool, false, cond, List, ℕ, ◌*◌, ◌%◌, ◌<◌, ◌≤◌, ℤ, pos, nat_abs, ◌+ℤ◌, ◌-ℤ◌, ◌*ℤ◌, length, get_or, Float}
use Rattle.std.specs.Float.{binary32}
use Rattle.std.specs.Float.Ieee.{of_bits}
use Rattle.base_answers.specs.Numbers.{refusing}
use Rattle.base_answers.specs.Answers as answer
use Rattle.grid_coordinate.specs.Units.{one, signed, units}
use Rattle.grid_coordinate.specs.Places.{Lands, Places, answer_of}
use Rattle.grid_coordinate.specs.declared.Coordinate.{Coordinate}
use Rattle.grid_coordinate.specs.declared.Coordinate.TheVariants.{Exact, Shifted, NotFinite, TooFar}
use Rattle.surface_rules.specs.Refusals.{not_finite, too_far}
use Rattle.survey_rules.specs.Outcome as survey
use Rattle.patch_surface.specs.Outcome as patcher
use Rattle.chart_surface.specs.Outcome as chart
use Rattle.judge_surface.specs.Outcome.{Judges}

-- how far a value lies from a whole number of plate units, of which each has 2^149 units
abbrev pub away : Float → ℤ → ℤ
away x k = units x -ℤ k *ℤ pos one

-- the number that a grid has for a coordinate of this answer; one that is refused is on no grid
abbrev pub Stands : Coordinate → ℤ → Type 0
Stands (Exact k) z = z ≡ k
Stands (Shifted k d) z = z ≡ k
Stands NotFinite z = ⊥
Stands (TooFar x) z = ⊥

-- a grid that has such a number for each word
abbrev pub Gridded : ℕ → List ℕ → List ℤ → Type 0
Gridded pitch words grid =
    (i : ℕ) → i < length words → (c : Coordinate) → Places pitch (of_bits binary32 (get_or words i 0)) c → Stands c (get_or grid i (pos 0))

-- what holds at every pitch, 1 among them: "Pitch 1 is document 01's rule."
pub record GridDemand (pitch : ℕ) : Type 0 where
  -- "The answer for one coordinate is one of four": every word has one, and no two.
  pub answered : (word : ℕ) → (c : Coordinate) × Places pitch (of_bits binary32 word) c
  pub one_answer : (x : Float) (a b : Coordinate) → Places pitch x a → Places pitch x b → a ≡ b
  -- "A coordinate goes to the nearest multiple of the pitch": it is one, and no other lies nearer, on either side of 0;
  pub multiple : (x : Float) (k : ℤ) → Lands pitch x k → (s : Bool) × (m : ℕ) × (k ≡ signed s (m * pitch))
  pub nearest : (x : Float) (k : ℤ) → Lands pitch x k → (s : Bool) (m : ℕ) → nat_abs (away x k) ≤ nat_abs (away x (signed s (m * pitch)))
  -- "a tie to the even multiple".
  pub tie : (x : Float) (k : ℤ) → Lands pitch x k → nat_abs (away x k) * 2 ≡ pitch * one → (m : ℕ) × (nat_abs k ≡ m * pitch) × (m % 2 ≡ 0)
  -- "The rest is then at most half a pitch, is still exact": nothing, or the float that is told, which with the multiple is the value.
  pub half : (x : Float) (k : ℤ) → Lands pitch x k → nat_abs (away x k) * 2 ≤ pitch * one
  pub no_rest : (x : Float) (k : ℤ) → Places pitch x (Exact k) → units x ≡ k *ℤ pos one
  pub rest_exact : (x : Float) (k : ℤ) (d : Float) → Places pitch x (Shifted k d) → units x ≡ k *ℤ pos one +ℤ units d
  -- "Not finite" and "too far" are the refusals 7 and 8 of a sheet that has the word, and the other two are none.
  pub refusals : (words : List ℕ) (i : ℕ) (c : Coordinate) → Places pitch (of_bits binary32 (get_or words i 0)) c
      → answer_of i c ≡ cond (not_finite words i) (answer.NotFinite i) (cond (too_far pitch words i) (answer.TooFar i) answer.Done)
  -- The grid that a survey, the patcher, charting or the checker leaves, where it does not refuse, has these numbers.
  pub surveyed : (words corners : List ℕ) (b : survey.Buffers) → refusing (survey.survey_of pitch words corners b).answer ≡ false
      → Gridded pitch words (survey.survey_of pitch words corners b).left.grid
  pub patched : (words corners : List ℕ) (b : patcher.Buffers) (o : patcher.Outcome) → patcher.Patches pitch words corners b o → refusing o.answer ≡ false
      → Gridded pitch words o.left.grid
  pub charted : (words corners : List ℕ) (b : chart.Buffers) (o : chart.Outcome) → chart.Charts pitch words corners b o → refusing o.answer ≡ false
      → Gridded pitch words o.left.grid
  pub judged : (words corners states set : List ℕ) (b : survey.Buffers) (o : survey.Outcome) → Judges pitch words corners states set b o → refusing o.answer ≡ false
      → Gridded pitch words o.left.grid
