-- The library's answers in plain numbers, as they cross to another language.
use Rattle.std.specs.Prelude.{ℕ, ◌≡◌, Bool, true, false, List, ℤ, pos, Float}
use Rattle.std.specs.Float.{binary32}
use Rattle.std.specs.Float.Ieee.{to_bits}
use Rattle.base_answers.specs.Numbers.{number_of, place_of}
use Rattle.base_answers.specs.Answers.{NoPitch}
use Rattle.base_types.specs.Pitches.{is_pitch}
use Rattle.grid_coordinate.specs.Places.{Places, answer_of}
use Rattle.grid_coordinate.specs.declared.Coordinate.{Coordinate}
use Rattle.grid_coordinate.specs.declared.Coordinate.TheVariants.{Exact, Shifted, NotFinite, TooFar}
use Rattle.survey_rules.specs.Outcome.{Buffers, Outcome}
use Rattle.patch_surface.specs.Outcome as patcher
use Rattle.chart_surface.specs.Outcome as charter
use Rattle.judge_surface.specs.Outcome.{Judges}

-- the whole number of an answer, or 0
abbrev pub whole_of : Coordinate → ℤ
whole_of (Exact k) = k
whole_of (Shifted k d) = k
whole_of NotFinite = pos 0
whole_of (TooFar x) = pos 0

-- the bits of the float that comes with an answer, or 0
abbrev pub float_of : Coordinate → ℕ
float_of (Exact k) = 0
float_of (Shifted k d) = to_bits binary32 d
float_of NotFinite = 0
float_of (TooFar x) = to_bits binary32 x

-- the number, the whole number and the float are those of the right answer for x at that pitch
pub record TellsPlace (pitch : ℕ) (x : Float) (number : ℕ) (whole : ℤ) (float : ℕ) : Type 0 where
  pub coordinate : Coordinate
  pub right : Places pitch x coordinate
  pub its_number : number ≡ number_of (answer_of 0 coordinate)
  pub its_whole : whole ≡ whole_of coordinate
  pub its_float : float ≡ float_of coordinate

-- or the number is 17, where the number given is no pitch, and there are no others
abbrev pub TellsIf : Bool → ℕ → Float → ℕ → ℤ → ℕ → Type 0
TellsIf true pitch x number whole float = TellsPlace pitch x number whole float
TellsIf false pitch x number whole float = (number ≡ number_of NoPitch) × (whole ≡ pos 0) × (float ≡ 0)

abbrev pub Tells : ℕ → Float → ℕ → ℤ → ℕ → Type 0
Tells pitch = TellsIf (is_pitch pitch) pitch

-- a survey's or the checker's answer in numbers, with what it leaves
pub record Told : Type 0 where
  pub number : ℕ
  pub place : ℕ
  pub loops : ℕ
  pub vertices : ℕ
  pub left : Buffers

abbrev pub told : ℕ → ℕ → ℕ → ℕ → Buffers → Told
told number place loops vertices b = record { number = number; place = place; loops = loops; vertices = vertices; left = b }

abbrev pub surveyed : Outcome → Told
surveyed o = told (number_of o.answer) (place_of o.answer) o.loops o.vertices o.left

-- a patching's answer in numbers, with what it leaves
pub record PatchTold : Type 0 where
  pub number : ℕ
  pub place : ℕ
  pub loops : ℕ
  pub vertices : ℕ
  pub corners : ℕ
  pub left : patcher.Buffers

abbrev pub patch_told : ℕ → ℕ → ℕ → ℕ → ℕ → patcher.Buffers → PatchTold
patch_told number place loops vertices corners b = record { number = number; place = place; loops = loops; vertices = vertices; corners = corners; left = b }

abbrev pub patched : patcher.Outcome → PatchTold
patched o = patch_told (number_of o.answer) (place_of o.answer) o.loops o.vertices o.corners o.left

-- what is told is an outcome of the patcher
pub record PatchesTold (pitch : ℕ) (words corners : List ℕ) (b : patcher.Buffers) (t : PatchTold) : Type 0 where
  pub outcome : patcher.Outcome
  pub right : patcher.Patches pitch words corners b outcome
  pub its_numbers : t ≡ patched outcome

-- a charting's answer in numbers, with what it leaves
pub record ChartTold : Type 0 where
  pub number : ℕ
  pub place : ℕ
  pub loops : ℕ
  pub vertices : ℕ
  pub entries : ℕ
  pub left : charter.Buffers

abbrev pub chart_told : ℕ → ℕ → ℕ → ℕ → ℕ → charter.Buffers → ChartTold
chart_told number place loops vertices entries b = record { number = number; place = place; loops = loops; vertices = vertices; entries = entries; left = b }

abbrev pub charted : charter.Outcome → ChartTold
charted o = chart_told (number_of o.answer) (place_of o.answer) o.loops o.vertices o.entries o.left

-- what is told is an outcome of charting
pub record ChartsTold (pitch : ℕ) (words corners : List ℕ) (b : charter.Buffers) (t : ChartTold) : Type 0 where
  pub outcome : charter.Outcome
  pub right : charter.Charts pitch words corners b outcome
  pub its_numbers : t ≡ charted outcome

-- what is told is an outcome of the checker
pub record JudgesTold (pitch : ℕ) (words corners states set : List ℕ) (b : Buffers) (t : Told) : Type 0 where
  pub outcome : Outcome
  pub right : Judges pitch words corners states set b outcome
  pub its_numbers : t ≡ surveyed outcome
