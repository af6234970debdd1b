-- The course where the weights stand in the last seventh of the place of the records.
use Rattle.std.specs.Prelude.{◌≡◌, List, ℕ, ◌*◌, ◌-◌, ◌≤◌, ℤ, length, take, drop}
use Rattle.base_limits.specs.Limits as limits
use Rattle.surface_rules.specs.Buffers.{laid}
use Rattle.patch_records.specs.Workings.Columns.{weights_from}
use Rattle.patch_all.specs.Workings.Courses.{docket, CourseRoom, CourseDone}

-- what the course writes, with the weights among the records
pub record Weighing : Type 0 where
  pub states : List ℕ
  pub records : List ℕ
  pub patches : List ℕ

abbrev pub weighing : List ℕ → List ℕ → List ℕ → Weighing
weighing states records patches = record { states = states; records = records; patches = patches }

-- the place of the weights of n loops
abbrev pub weights_in : ℕ → List ℕ → List ℕ
weights_in n records = take (limits.record_numbers * n - weights_from n) (drop (weights_from n) records)

pub record WeighRoom (grid : List ℤ) (input rings lengths states records patches : List ℕ) : Type 0 where
  pub course : CourseRoom grid input rings lengths (docket states (weights_in (length lengths) records) patches)
  pub room : limits.record_numbers * length lengths ≤ length records
  pub few : length lengths ≤ limits.triangles

-- the course ran, and its weights were laid there
pub record Weighs (grid : List ℤ) (input rings lengths : List ℕ) (w : Weighing) (p : ℕ) (w' : Weighing) : Type 0 where
  pub weights : List ℕ
  pub as_many : length weights ≡ length lengths
  pub course : CourseDone grid input rings lengths (docket w.states (weights_in (length lengths) w.records) w.patches) p (docket w'.states weights w'.patches)
  pub stand : w'.records ≡ laid (weights_from (length lengths)) weights w.records
