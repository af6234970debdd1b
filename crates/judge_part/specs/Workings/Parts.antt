-- The part of a set that a loop of four or more takes, as the code judges it.
use Rattle.std.specs.Prelude.{◌≡◌, List, ℕ, ◌-◌, ◌<◌, ◌≤◌, ℤ, length, take, Float}
use Rattle.base_answers.specs.declared.Answer.{Answer}
use Rattle.base_limits.specs.Limits as limits
use Rattle.base_limits.specs.States as stated
use Rattle.surface_rules.specs.Threes.{threes}
use Rattle.cover_rules.specs.Covers.{Cover, Allowed}
use Rattle.cover_bars.specs.Bars.{barred}
use Rattle.judge_seat.specs.Workings.Covering.{Covering}
use Rattle.judge_seat.specs.Workings.Seats.{Ringed}
use Rattle.cover_column.specs.Workings.Columns.{TableFor}
use Rattle.cover_table.specs.Workings.Loops.{OnGrid, Barring}
use Rattle.judge_rules.specs.Faults.{share}
use Rattle.judge_sight.specs.Workings.Findings.{Finds}

-- the ring of a loop of more than three edges, with its bars
pub record PartRoom (grid : List ℤ) (ring part stamps : List ℕ) (base : ℕ) (rows : List ℕ) (table : List Float) : Type 0 where
  pub ringed : Ringed ring base stamps
  pub on : OnGrid grid ring
  pub some : 3 < length ring
  pub long : length part ≡ share ring
  pub rows_long : length rows ≡ limits.longest
  pub table_long : TableFor (length ring) table
  pub input : List ℕ
  pub before : List ℕ
  pub barring : Barring (barred input before ring) ring rows

-- the part of the set is judged by whatever bars these rows tell; what follows it in the set does not matter
abbrev pub FindsCover : List ℤ → List ℕ → List ℕ → ℕ → List ℕ → Answer → Type 0
FindsCover grid ring part l rows a =
    (input before : List ℕ) → Barring (barred input before ring) ring rows → (set : List ℕ) → share ring ≤ length set → part ≡ take (share ring) set
    → Finds grid input before l ring stated.patched set a

-- the part is an allowed cover by the rows' bars
pub record WeightRoom (grid : List ℤ) (ring part rows : List ℕ) (table : List Float) : Type 0 where
  pub on : OnGrid grid ring
  pub some : 3 < length ring
  pub long : length part ≡ share ring
  pub table_long : TableFor (length ring) table
  pub input : List ℕ
  pub before : List ℕ
  pub barring : Barring (barred input before ring) ring rows
  pub cover : Cover
  pub covering : Covering ring (threes part) cover

-- then it is right, or a lighter one exists
abbrev pub FindsWeight : List ℤ → List ℕ → List ℕ → ℕ → List ℕ → Answer → Type 0
FindsWeight grid ring part l rows a =
    (input before : List ℕ) → Barring (barred input before ring) ring rows → (set : List ℕ) → share ring ≤ length set → part ≡ take (share ring) set
    → (c : Cover) → Covering ring (threes part) c → Allowed (barred input before ring) 0 (length ring - 1) c
    → Finds grid input before l ring stated.patched set a
