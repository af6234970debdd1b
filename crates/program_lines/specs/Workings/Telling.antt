-- How a listing goes from loop to loop.
use Rattle.std.specs.Prelude.{◌≡◌, cond, ℕ, ◌+◌, ◌-◌, ◌*◌, ◌^◌, ◌<◌, ◌≤◌, eqb, length, take, get_or}
use mathlib.Core.List.{List, [], map, flatten}
use Rattle.base_limits.specs.Limits as limits
use Rattle.base_limits.specs.States as stated
use Rattle.surface_rules.specs.Buffers.{laid}
use Rattle.patch_records.specs.declared.Record.{Record}
use Rattle.patch_records.specs.Records.{numbers, none}
use Rattle.program_lines.specs.Listing.{Shown, loop_lines}
use Rattle.program_lines.specs.declared.Progress.{Progress}

-- what stands in the buffers: the vertices of the rings, the records, and the corners of the patches
pub record Inventory : Type 0 where
  pub rings : List ℕ
  pub records : List ℕ
  pub patches : List ℕ

abbrev pub inventory : List ℕ → List ℕ → List ℕ → Inventory
inventory rings records patches = record { rings = rings; records = records; patches = patches }

-- which are the loops, one after the other
pub record Lying (loops : List Shown) (w : Inventory) : Type 0 where
  pub rings_are : w.rings ≡ flatten (map (λ (s : Shown). s.ring) loops)
  pub records_are : w.records ≡ flatten (map (λ (s : Shown). numbers s.kept) loops)
  pub patches_are : w.patches ≡ flatten (map (λ (s : Shown). s.patch) loops)

-- a loop whose lines are no wider than there is room for: a patched one is not long and its patch has its share of corners, and any
-- other has none
pub record Fits (s : Shown) : Type 0 where
  pub as_long : s.kept.length ≡ length s.ring
  pub three : 3 ≤ length s.ring
  pub few : length s.ring ≤ limits.corners
  pub patched : s.kept.state ≡ stated.patched → length s.ring ≤ limits.longest
  pub share : length s.patch ≡ cond (eqb s.kept.state stated.patched) (3 * (length s.ring - 2)) 0
  pub state_small : s.kept.state < 10
  pub weight_small : s.kept.weight < 2 ^ 41
  pub first_small : s.kept.first < limits.corners
  pub piece_small : s.kept.piece < limits.triangles
  pub run_small : s.kept.run < 2 ^ 32

-- the first loops were told
pub record Told (loops : List Shown) (m : Progress) : Type 0 where
  pub vertices_are : m.vertices ≡ length (flatten (map (λ (s : Shown). s.ring) (take m.loops loops)))
  pub corners_are : m.corners ≡ length (flatten (map (λ (s : Shown). s.patch) (take m.loops loops)))

abbrev pub shown : List ℕ → Record → List ℕ → Shown
shown ring kept patch = record { ring = ring; kept = kept; patch = patch }

abbrev pub nothing : Shown
nothing = shown [] none []

-- the loop that comes next
abbrev pub next : List Shown → Progress → Shown
next loops m = get_or loops m.loops nothing

-- there is room for the next loop's lines
pub record NextRoom (w : Inventory) (m : Progress) : Type 0 where
  pub loops : List Shown
  pub lying : Lying loops w
  pub told : Told loops m
  pub more : m.loops < length loops
  pub fits : Fits (next loops m)

-- the next loop's lines were put behind what stands in the buffer, and it is told
pub record Tells (loops : List Shown) (m r : Progress) (before after : List ℕ) : Type 0 where
  pub put : after ≡ laid m.bytes (loop_lines (next loops m)) before
  pub bytes_are : r.bytes ≡ m.bytes + length (loop_lines (next loops m))
  pub one_more : r.loops ≡ m.loops + 1
  pub tells : Told loops r

-- whichever loops they are that stand in the buffers and of which the first were told
pub record TellsNext (w : Inventory) (m r : Progress) (before after : List ℕ) : Type 0 where
  pub tells : (room : NextRoom w m) → Tells room.loops m r before after
