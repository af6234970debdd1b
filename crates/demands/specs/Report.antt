-- The demand of the report: "for each piece its rim, its tide pools and its lakes, in listed order. An entry is a kind and a number ...; pieces ascend, and
-- the answer counts the entries. Each loop is to stand in exactly one place. A piece without open edges appears with no rim."
use Rattle.std.specs.Prelude.{◌≡◌, true, false, ◌⊎◌, List, ℕ, ◌+◌, ◌*◌, ◌/◌, ◌<◌, ◌≤◌, length, get_or}
use Rattle.base_answers.specs.Numbers.{refusing}
use Rattle.surface_rules.specs.Edges.{is_open}
use Rattle.loop_rules.specs.Loops.{loops}
use Rattle.survey_grid.specs.Grid.{grid_of}
use Rattle.rim_pieces.specs.Pieces.{triangle_count}
use Rattle.rim_pieces.specs.Computed.{piece_of, piece_count}
use Rattle.patch_surface.specs.Outcome as patcher
use Rattle.chart_rules.specs.declared.Entry.{Entry}
use Rattle.chart_rules.specs.Report.{entry_in}
use Rattle.chart_rules.specs.Touching.{Called}
use Rattle.chart_rules.specs.Tallies.{of_loop, of_piece, OnePlace}
use Rattle.chart_rules.specs.Order.{home_of, of_rim, Sooner}
use Rattle.chart_surface.specs.Outcome as chart

-- entry i of the report that is left
abbrev pub entry_left : chart.Outcome → ℕ → Entry
entry_left o i = entry_in o.left.report i

-- what holds of every outcome o of charting that is no refusal
pub record ReportDemand (pitch : ℕ) (words corners : List ℕ) (b : chart.Buffers) (o : chart.Outcome) : Type 0 where
  -- "Each loop is to stand in exactly one place",
  pub loops_once : (l : ℕ) → l < length (loops corners) → OnePlace o.entries (entry_left o) (of_loop l)
  -- and so does the piece of each triangle.
  pub pieces_once : (t : ℕ) → t < triangle_count corners → OnePlace o.entries (entry_left o) (of_piece (piece_of corners t))
  -- Each entry is "0 a piece", or a loop by what it is: "1 its rim, 2 a tide pool, 3 a lake".
  pub each_tells : (i : ℕ) → i < o.entries
      → (((entry_left o i).kind ≡ 0) × ((t : ℕ) × (t < triangle_count corners) × (piece_of corners t ≡ (entry_left o i).number)))
      ⊎ (((entry_left o i).number < length (loops corners)) × Called (grid_of pitch words) corners (entry_left o i).number (entry_left o i).kind)
  -- "Pieces ascend", and of each come "its rim, its tide pools and its lakes, in listed order".
  pub in_order : (i j : ℕ) → i < j → j < o.entries → Sooner corners (entry_left o i) (entry_left o j)
  -- A piece with an open edge has one rim there; "a piece without open edges appears with no rim", and with no other loop.
  pub one_rim : (e : ℕ) → e < length corners → is_open corners e ≡ true → OnePlace o.entries (entry_left o) (of_rim corners (piece_of corners (e / 3)))
  pub no_rim : (t : ℕ) → ((e : ℕ) → e < length corners → is_open corners e ≡ true → piece_of corners (e / 3) ≡ piece_of corners t → ⊥)
      → (i : ℕ) → i < o.entries → home_of corners (entry_left o i) ≡ piece_of corners t → (entry_left o i).kind ≡ 0
  -- "The answer counts the entries": the pieces and the loops, so no more than "2T entries".
  pub counted : o.entries ≡ piece_count corners + length (loops corners)
  pub few : o.entries ≤ 2 * triangle_count corners
  -- The counts, the grid, the ring vertices and the "loop records" are "as the patcher's", where it is lent the same for them.
  pub as_patched : (patches : List ℕ) (q : patcher.Outcome) → patcher.Patches pitch words corners (patcher.buffers b.grid b.rings b.records patches) q
      → refusing q.answer ≡ false
      → (o.loops ≡ q.loops) × (o.vertices ≡ q.vertices) × (o.left.grid ≡ q.left.grid) × (o.left.rings ≡ q.left.rings) × (o.left.records ≡ q.left.records)
  -- Behind the last entry all is as it was.
  pub behind : (i : ℕ) → 2 * o.entries ≤ i → get_or o.left.report i 0 ≡ get_or b.report i 0
