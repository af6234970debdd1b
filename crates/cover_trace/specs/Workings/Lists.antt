-- The patch of a stretch, listed into a buffer.
use Rattle.std.specs.Prelude.{◌≡◌, Bool, List, ℕ, ◌+◌, ◌-◌, ◌*◌, ◌<◌, ◌≤◌, length, Float}
use Rattle.surface_rules.specs.Buffers.{laid}
use Rattle.cover_rules.specs.Covers.{Cover, Patch, triangles, corners_of, vertex_of}
use Rattle.cover_weight.specs.declared.Point.{Point}
use Rattle.cover_weight.specs.Edition.{naturals, tri_of}
use Rattle.cover_trace.specs.Workings.Ways.{Weighed, Weighable}

-- some loop's table, a stretch, and room for its triangles from p on
pub record ListRoom (quarter : ℕ) (table : List Float) (ring buffer : List ℕ) (p i k : ℕ) : Type 0 where
  pub weighable : Weighable quarter table i k
  pub in_ring : k < length ring
  pub room : p + 3 * (k - i - 1) ≤ length buffer

-- the buffer has the corners of the stretch's patch from p on
abbrev pub ListsPatch : ℕ → List Float → List ℕ → List ℕ → ℕ → ℕ → ℕ → List ℕ → Type 0
ListsPatch quarter table ring buffer p i k buffer' =
    (at : ℕ → Point) (barred : ℕ → ℕ → Bool) (n w : ℕ) → Weighed at barred quarter n table i k w → (c : Cover) → Patch naturals (tri_of at) barred i k c
    → buffer' ≡ laid p (corners_of (vertex_of ring) (triangles i k c)) buffer
