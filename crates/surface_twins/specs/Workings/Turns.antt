-- The table of turns: for each half-edge, where the turn through the fan goes on from it.
use Rattle.std.specs.Prelude.{◌≡◌, Bool, ◌&&◌, ◌||◌, List, ℕ, ◌+◌, ◌/◌, ◌%◌, ◌≤◌, ◌<◌, eqb, length, get_or, Option, Some, None}
use Rattle.base_limits.specs.Limits as limits
use Rattle.surface_rules.specs.Edges.{following, twin, twice, repeats}

-- what stands with the edge after an open one, above every half-edge
abbrev pub open_mark : ℕ
open_mark = 4096

-- the edge after the twin; or, of an open edge, the mark and the edge after itself
abbrev pub turn_by : Option ℕ → ℕ → ℕ
turn_by (Some g) h = following g
turn_by None h = open_mark + following h

-- the table has every half-edge's turn
unfoldable pub Turns : List ℕ → List ℕ → Type 0
Turns corners table = (h : ℕ) → h < length corners → get_or table h 0 ≡ turn_by (twin corners h) h

-- where the pairing stops: h repeats an earlier half-edge, or begins a triangle that names a point twice
unfoldable pub stops : List ℕ → ℕ → Bool
stops corners h = repeats corners h || (eqb (h % 3) 0 && twice corners (h / 3))

-- the pairing has room: whole triangles, not too many, and a table that is long enough
pub record Room (corners table : List ℕ) : Type 0 where
  pub triples : length corners % 3 ≡ 0
  pub few : length corners ≤ limits.corners
  pub long : length corners ≤ length table
