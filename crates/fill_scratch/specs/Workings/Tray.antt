-- The tray: what lies ready between two loops.
use Rattle.std.specs.Prelude.{◌≡◌, ◌⊎◌, List, ℕ, ◌+◌, ◌*◌, ◌-◌, ◌%◌, ◌^◌, ◌<◌, ◌≤◌, length, get_or, Float}
use Rattle.base_limits.specs.Limits as limits
use Rattle.cover_bars.specs.Workings.Chains.{Tells}
use Rattle.cover_column.specs.Workings.Columns.{TableFor}
use Rattle.fill_scratch.specs.Workings.Rings.{SightAt}

-- chains of edges, the ring's stamps, rows of bars and the table
pub record Tray : Type 0 where
  pub heads : List ℕ
  pub links : List ℕ
  pub ends : List ℕ
  pub stamps : List ℕ
  pub rows : List ℕ
  pub table : List Float

abbrev pub tray : List ℕ → List ℕ → List ℕ → List ℕ → List ℕ → List Float → Tray
tray heads links ends stamps rows table = record { heads = heads; links = links; ends = ends; stamps = stamps; rows = rows; table = table }

-- room for the edges that are chained: for the input's, and for as many diagonals
pub record EdgeRoom (input links ends : List ℕ) : Type 0 where
  pub links_long : 2 * length input ≤ length links
  pub ends_long : 2 * length input ≤ length ends

-- it is ready: e edges tell of the input and of the patches so far, the stamps lie below the base, and the rows have room
pub record TrayReady (input laid : List ℕ) (e base : ℕ) (t : Tray) : Type 0 where
  pub tells : Tells input laid e t.heads t.links t.ends
  pub whole : length laid % 3 ≡ 0
  pub stamps_long : length t.stamps ≡ limits.points
  pub below : (v : ℕ) → get_or t.stamps v 0 < base
  pub rows_long : length t.rows ≡ limits.longest

-- room on it for one ring more: for its diagonals behind e edges, for its stamps from the base on, and for its table
pub record TrayRoom (ring : List ℕ) (e base : ℕ) (t : Tray) : Type 0 where
  pub links_room : e + (length ring - 2) ≤ length t.links
  pub ends_room : e + (length ring - 2) ≤ length t.ends
  pub few_edges : e + (length ring - 2) < 2 ^ 16
  pub few_stamps : base + length ring < 2 ^ 16
  pub table_room : length ring ≤ limits.longest → TableFor (length ring) t.table

-- the table is long enough for each loop that is not settled at sight
abbrev pub Serves : List ℕ → List ℕ → List Float → Type 0
Serves lengths marks table = (l : ℕ) → l < length lengths → SightAt lengths marks l ⊎ TableFor (get_or lengths l 0) table
