-- Demand 2, of the records: "The record kept for a loop must carry its first half-edge, its piece number ... and its run, beside length, state and
-- weight." The records are the facts.
use Rattle.std.specs.Prelude.{◌≡◌, true, List, [], ℕ, ◌*◌, ◌/◌, ◌<◌, ◌≤◌, length, get_or}
use Rattle.base_limits.specs.Limits as limits
use Rattle.surface_rules.specs.Edges.{start_of, end_of}
use Rattle.loop_rules.specs.Loops.{ring}
use Rattle.survey_grid.specs.Grid.{grid_of}
use Rattle.fill_fates.specs.Fates.{Fate}
use Rattle.fill_fates.specs.Course.{Course, ring_list}
use Rattle.rim_pieces.specs.Computed.{piece_of}
use Rattle.rim_rules.specs.Rims.{loop_at, is_rim, rim_list}
use Rattle.patch_records.specs.declared.Record.{Record}
use Rattle.patch_records.specs.Records.{record_of, record_in}
use Rattle.patch_surface.specs.Outcome as patcher

-- the record of loop l that is left
abbrev pub left_of : patcher.Outcome → ℕ → Record
left_of o l = record_in o.left.records l

-- what holds of every outcome o of the patcher that is no refusal
pub record RecordsDemand (pitch : ℕ) (words corners : List ℕ) (b : patcher.Buffers) (o : patcher.Outcome) : Type 0 where
  -- Each of the seven numbers of each record is the fact, by what becomes of the loops.
  pub fates : List Fate
  pub course : Course (grid_of pitch words) corners [] (rim_list (grid_of pitch words) corners) (ring_list corners) fates
  pub kept : (l : ℕ) → l < o.loops → left_of o l ≡ record_of (grid_of pitch words) corners fates l
  -- The first half-edge stands at place 0 of the loop, and runs from the ring's first vertex to its second.
  pub at_first : (l : ℕ) → l < o.loops → (left_of o l).first ≡ get_or (loop_at corners l) 0 0
  pub starts : (l : ℕ) → l < o.loops → start_of corners (left_of o l).first ≡ get_or (ring corners (loop_at corners l)) 0 0
  pub ends : (l : ℕ) → l < o.loops → end_of corners (left_of o l).first ≡ get_or (ring corners (loop_at corners l)) 1 0
  -- The piece is that of every triangle along the loop.
  pub all_along : (l i : ℕ) → l < o.loops → i < length (loop_at corners l) → piece_of corners (get_or (loop_at corners l) i 0 / 3) ≡ (left_of o l).piece
  -- "A rim gets state 4", and nothing else does; it has no weight.
  pub rims_four : (l : ℕ) → l < o.loops → is_rim (grid_of pitch words) corners l ≡ true → ((left_of o l).state ≡ 4) × ((left_of o l).weight ≡ 0)
  pub only_rims : (l : ℕ) → l < o.loops → (left_of o l).state ≡ 4 → is_rim (grid_of pitch words) corners l ≡ true
  -- Behind the last record all is as it was.
  pub behind : (i : ℕ) → limits.record_numbers * o.loops ≤ i → get_or o.left.records i 0 ≡ get_or b.records i 0
