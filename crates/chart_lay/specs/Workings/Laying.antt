-- What laying the report takes and leaves.
use Rattle.std.specs.Prelude.{◌≡◌, List, ℕ, ◌*◌, ◌/◌, ◌<◌, ◌≤◌, ℤ, length, get_or}
use Rattle.surface_rules.specs.Buffers.{over}
use Rattle.surface_rules.specs.Edges.{Sound}
use Rattle.loop_rules.specs.Loops.{loops}
use Rattle.fill_fates.specs.Course.{ring_list}
use Rattle.fill_scratch.specs.Workings.Rings.{Loops, Input, Marks}
use Rattle.rim_pieces.specs.Computed.{piece_count}
use Rattle.rim_rules.specs.Rims.{piece_at, rim_list}
use Rattle.chart_rules.specs.Report.{entry_numbers, report_of}

-- the loops of a surface with their rings and lengths, the marks of its rims, the piece of each loop, and how many pieces there are
pub record Shores (grid : List ℤ) (corners rings lengths marks pieces : List ℕ) (count : ℕ) : Type 0 where
  pub sound : Sound corners
  pub input : Input corners
  pub listed : Loops grid corners (ring_list corners) rings lengths
  pub marked : Marks (rim_list grid corners) marks
  pub pieces_long : length (loops corners) ≤ length pieces
  pub pieces_are : (l : ℕ) → l < length (loops corners) → get_or pieces l 0 ≡ piece_at corners l
  pub counted : count ≡ piece_count corners

-- such loops, and room for two entries a triangle; which surface it is does not matter
pub record LayRoom (rings lengths marks pieces report : List ℕ) (count : ℕ) : Type 0 where
  pub grid : List ℤ
  pub corners : List ℕ
  pub shores : Shores grid corners rings lengths marks pieces count
  pub room : 4 * (length corners / 3) ≤ length report

-- whichever it is, its report was laid
abbrev pub Lays : List ℕ → List ℕ → List ℕ → List ℕ → List ℕ → ℕ → ℕ → List ℕ → Type 0
Lays rings lengths marks pieces report count r report' =
    (grid : List ℤ) (corners : List ℕ) → Shores grid corners rings lengths marks pieces count
    → (r ≡ length (report_of grid corners)) × (report' ≡ over (entry_numbers (report_of grid corners)) report)
