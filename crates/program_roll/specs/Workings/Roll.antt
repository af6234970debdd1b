-- What is put into a buffer at a listing's beginning, and how it goes on from there.
use Rattle.std.specs.Prelude.{◌≡◌, ℕ, ◌+◌, ◌<◌, ◌≤◌, length}
use mathlib.Core.List.{List, ◌++◌, map, flatten}
use Rattle.base_answers.specs.declared.Answer.{Answer}
use Rattle.base_limits.specs.Limits as limits
use Rattle.surface_rules.specs.Buffers.{over, laid}
use Rattle.program_lines.specs.declared.Progress.{Progress}
use Rattle.program_lines.specs.Listing.{Shown, loop_lines}
use Rattle.program_lines.specs.Workings.Telling.{Inventory, Told}
use Rattle.program_roll.specs.Sections.{head, between}
use Rattle.program_roll.specs.Workings.Listed.{Listed}

-- the lines before the first loop were put at the buffer's start, and no loop was told
pub record Begins (a : Answer) (loops : ℕ) (r : Progress) (before after : List ℕ) : Type 0 where
  pub put : after ≡ over (head a loops) before
  pub bytes_are : r.bytes ≡ length (head a loops)
  pub no_loops : r.loops ≡ 0
  pub no_vertices : r.vertices ≡ 0
  pub no_corners : r.corners ≡ 0

-- so many loops stand in the buffers, and the first were told
pub record Going (w : Inventory) (count : ℕ) (m : Progress) : Type 0 where
  pub listed : Listed w count
  pub told : Told listed.loops m
  pub upto : m.loops ≤ count

-- the lines of the loops from the progress m on, up to the progress r, were put behind what stood in the buffer; before each loop there was room
-- for `most` bytes
pub record Puts (most : ℕ) (loops : List Shown) (m r : Progress) (before after : List ℕ) : Type 0 where
  pub put : after ≡ laid m.bytes (between m.loops r.loops loops) before
  pub bytes_are : r.bytes ≡ m.bytes + length (between m.loops r.loops loops)
  pub within : r.bytes ≤ length before
  pub from : m.loops ≤ r.loops
  pub upto : r.loops ≤ length loops
  pub tells : Told loops r
  pub roomy : (k : ℕ) → m.loops ≤ k → k < r.loops → m.bytes + length (between m.loops k loops) + most ≤ length before

-- and so on, until all loops were told or there was less room
pub record Fills (most : ℕ) (loops : List Shown) (m r : Progress) (before after : List ℕ) : Type 0 where
  pub puts : Puts most loops m r before after
  pub full : r.loops < length loops → length before < r.bytes + most

-- whichever loops they are that stand in the buffers and of which the first were told
pub record FillsOn (most : ℕ) (w : Inventory) (count : ℕ) (m r : Progress) (before after : List ℕ) : Type 0 where
  pub fills : (g : Going w count m) → Fills most g.listed.loops m r before after

-- no more loops, ring vertices and patch corners than a surface has
pub record Few (rings patches : List ℕ) (count : ℕ) : Type 0 where
  pub few_loops : count ≤ limits.triangles
  pub few_vertices : length rings ≤ limits.corners
  pub few_corners : length patches ≤ limits.set_corners

-- the lines before the loops, and those of all loops
abbrev pub whole : Answer → ℕ → List Shown → List ℕ
whole a count loops = head a count ++ flatten (map loop_lines loops)

-- they were put at the buffer's start, whichever loops they are that stand in the buffers, and r is how many bytes they have
pub record PutsAll (w : Inventory) (a : Answer) (count r : ℕ) (before after : List ℕ) : Type 0 where
  pub put : (l : Listed w count) → after ≡ over (whole a count l.loops) before
  pub bytes_are : (l : Listed w count) → r ≡ length (whole a count l.loops)
