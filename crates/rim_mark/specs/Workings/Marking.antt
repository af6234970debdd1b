-- The rims as marks, which stand among the states before the course.
use Rattle.std.specs.Prelude.{◌≡◌, Bool, cond, List, map, ℕ, ◌<◌, ◌≤◌, ℤ, length, get_or}
use Rattle.surface_rules.specs.Buffers.{over}
use Rattle.loop_rules.specs.Loops.{loops}
use Rattle.loop_cut.specs.Listing.{first_of}
use Rattle.fill_fates.specs.Course.{ring_list}
use Rattle.fill_scratch.specs.Workings.Rings.{Loops, rim_mark}
use Rattle.rim_pieces.specs.Pieces.{triangle_count}
use Rattle.rim_pieces.specs.Workings.Flooding.{Crossing}
use Rattle.rim_rules.specs.Rims.{loop_at, piece_at, run_at, rim_list}

-- a rim's mark is its state; any other loop has none yet
abbrev pub mark_of : Bool → ℕ
mark_of b = cond b rim_mark 0

-- the loops of a surface with their rings, lengths and first half-edges, and the table of turns
pub record Found (grid : List ℤ) (corners rings lengths firsts turns : List ℕ) : Type 0 where
  pub crossing : Crossing corners turns
  pub listed : Loops grid corners (ring_list corners) rings lengths
  pub firsts_are : (l : ℕ) → l < length (loops corners) → get_or firsts l 0 ≡ first_of (loop_at corners l)
  pub firsts_long : length (loops corners) ≤ length firsts

-- they were found, with their first half-edges where the marks come, and there is room
pub record MarkRoom (grid : List ℤ) (corners rings lengths turns path places marks : List ℕ) : Type 0 where
  pub found : Found grid corners rings lengths marks turns
  pub path_long : triangle_count corners ≤ length path
  pub places_long : triangle_count corners ≤ length places

abbrev pub Marked : List ℤ → List ℕ → List ℕ → List ℕ → Type 0
Marked grid corners marks marks' = marks' ≡ over (map mark_of (rim_list grid corners)) marks

-- they were found, and there is room for a mark, a piece and a run of each
pub record AllRoom (grid : List ℤ) (corners rings lengths firsts turns path pieces runs marks : List ℕ) : Type 0 where
  pub found : Found grid corners rings lengths firsts turns
  pub path_long : triangle_count corners ≤ length path
  pub pieces_long : triangle_count corners ≤ length pieces
  pub runs_long : length (loops corners) ≤ length runs
  pub marks_long : length (loops corners) ≤ length marks

-- which stand there
pub record AllMarked (grid : List ℤ) (corners marks pieces' runs' marks' : List ℕ) : Type 0 where
  pub marked : Marked grid corners marks marks'
  pub pieces_are : (l : ℕ) → l < length (loops corners) → get_or pieces' l 0 ≡ piece_at corners l
  pub runs_are : (l : ℕ) → l < length (loops corners) → get_or runs' l 0 ≡ run_at grid corners l
