-- The loops of a surface that passed the checks, as they were found, and what is left once the course was run over them.
use Rattle.std.specs.Prelude.{◌≡◌, List, [], ℕ, ◌*◌, ◌/◌, ◌<◌, ◌≤◌, ℤ, length, get_or}
use Rattle.base_limits.specs.Limits as limits
use Rattle.surface_rules.specs.Buffers.{over}
use Rattle.loop_rules.specs.Loops.{loops}
use Rattle.loop_cut.specs.Listing.{first_of}
use Rattle.fill_fates.specs.Fates.{Fate}
use Rattle.fill_fates.specs.Course.{Course, ring_list, laid_by}
use Rattle.fill_scratch.specs.Workings.Rings.{Loops, Marks}
use Rattle.rim_rules.specs.Rims.{loop_at, piece_at, run_at, rim_list}
use Rattle.patch_records.specs.Records.{records_of}
use Rattle.patch_records.specs.Workings.Columns.{Columns}
use Rattle.patch_surface.specs.Workings.Checking.{Checked}

-- Rings and columns are those of the loops, and among the states stand the marks of the rims; which pitch and words passed the checks does not matter.
pub record FoundLoops (grid : List ℤ) (corners rings : List ℕ) (c : Columns) : Type 0 where
  pub pitch : ℕ
  pub words : List ℕ
  pub turns : List ℕ
  pub checked : Checked pitch words corners turns grid
  pub listed : Loops grid corners (ring_list corners) rings c.lengths
  pub marked : Marks (rim_list grid corners) c.states
  pub firsts_are : (l : ℕ) → l < length (loops corners) → get_or c.firsts l 0 ≡ first_of (loop_at corners l)
  pub pieces_are : (l : ℕ) → l < length (loops corners) → get_or c.pieces l 0 ≡ piece_at corners l
  pub runs_are : (l : ℕ) → l < length (loops corners) → get_or c.runs l 0 ≡ run_at grid corners l

-- columns that are long enough, and room for what is left
pub record FillRoom (corners : List ℕ) (c : Columns) (records patches : List ℕ) : Type 0 where
  pub states_long : length corners / 3 ≤ length c.states
  pub firsts_long : length corners / 3 ≤ length c.firsts
  pub pieces_long : length corners / 3 ≤ length c.pieces
  pub runs_long : length corners / 3 ≤ length c.runs
  pub records_long : limits.record_numbers * (length corners / 3) ≤ length records
  pub patches_long : 3 * length corners ≤ length patches

-- the records of all loops and their patches, with the fates that the course gives the loops
pub record Fills (grid : List ℤ) (corners records patches : List ℕ) (laid : ℕ) (records' patches' : List ℕ) : Type 0 where
  pub fates : List Fate
  pub course : Course grid corners [] (rim_list grid corners) (ring_list corners) fates
  pub count : laid ≡ length (laid_by (ring_list corners) fates)
  pub records_are : records' ≡ over (records_of grid corners fates) records
  pub patches_are : patches' ≡ over (laid_by (ring_list corners) fates) patches
