-- Room for the patch of a whole loop, and the patch of a loop of three.
use Rattle.std.specs.Prelude.{◌≡◌, List, ℕ, ◌+◌, ◌-◌, ◌*◌, ◌≤◌, ℤ, length, Float}
use Rattle.surface_rules.specs.Buffers.{laid}
use Rattle.cover_rules.specs.Covers.{empty, apex, weight, patch_of}
use Rattle.cover_weight.specs.Edition.{naturals, tri_of, along}
use Rattle.cover_table.specs.Workings.Loops.{OnGrid, LoopRoom}

-- a loop, a table for its weights, and room for its triangles from p on
pub record PatchRoom (grid : List ℤ) (ring bars : List ℕ) (table : List Float) (buffer : List ℕ) (p : ℕ) : Type 0 where
  pub loop : LoopRoom grid ring bars table
  pub room : p + 3 * (length ring - 2) ≤ length buffer

-- ---- a loop of three, which has one cover

pub record ThreeRoom (grid : List ℤ) (ring buffer : List ℕ) (p : ℕ) : Type 0 where
  pub on : OnGrid grid ring
  pub three : length ring ≡ 3
  pub room : p + 3 ≤ length buffer

-- the answer is what that cover weighs, and the buffer has its triangle from p on
abbrev pub LaysThree : List ℤ → List ℕ → List ℕ → ℕ → ℕ → List ℕ → Type 0
LaysThree grid ring buffer p r buffer' =
    (r ≡ weight naturals (tri_of (along grid ring)) 0 2 (apex 1 empty empty))
    × (buffer' ≡ laid p (patch_of ring (apex 1 empty empty)) buffer)
