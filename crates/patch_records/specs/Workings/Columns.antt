-- What is known of the loops in columns, and the records that they are laid as.
use mathlib.Core.List.{List, map, flatten}
use Rattle.std.specs.Prelude.{ℕ, ◌+◌, ◌-◌, ◌*◌, ◌≤◌, length, get_or}
use Rattle.base_limits.specs.Limits as limits
use Rattle.rim_pieces.specs.Computed.{numbers_below}
use Rattle.patch_records.specs.declared.Record.{Record}
use Rattle.patch_records.specs.Records.{numbers}

-- a number for each loop; there are as many loops as lengths
pub record Columns : Type 0 where
  pub lengths : List ℕ
  pub states : List ℕ
  pub firsts : List ℕ
  pub pieces : List ℕ
  pub runs : List ℕ

abbrev pub columns : List ℕ → List ℕ → List ℕ → List ℕ → List ℕ → Columns
columns lengths states firsts pieces runs = record { lengths = lengths; states = states; firsts = firsts; pieces = pieces; runs = runs }

-- the weights stand behind the place of as many records but for a number each
abbrev pub weights_from : ℕ → ℕ
weights_from n = (limits.record_numbers - 1) * n

-- the record of loop l, whose weight stands in the buffer
abbrev pub row_of : Columns → List ℕ → ℕ → Record
row_of c buffer l = record {
  length = get_or c.lengths l 0;
  state = get_or c.states l 0;
  weight = get_or buffer (weights_from (length c.lengths) + l) 0;
  count = 0;
  first = get_or c.firsts l 0;
  piece = get_or c.pieces l 0;
  run = get_or c.runs l 0;
}

-- those of the first k loops
unfoldable pub rows : Columns → List ℕ → ℕ → List ℕ
rows c buffer k = flatten (map (λ (l : ℕ). numbers (row_of c buffer l)) (numbers_below k))

abbrev pub laid_records : Columns → List ℕ → List ℕ
laid_records c buffer = rows c buffer (length c.lengths)

-- room for a record of each loop, and columns that are long enough
pub record LayRoom (c : Columns) (buffer : List ℕ) : Type 0 where
  pub states_long : length c.lengths ≤ length c.states
  pub firsts_long : length c.lengths ≤ length c.firsts
  pub pieces_long : length c.lengths ≤ length c.pieces
  pub runs_long : length c.lengths ≤ length c.runs
  pub room : limits.record_numbers * length c.lengths ≤ length buffer
  pub few : length c.lengths ≤ limits.triangles
