-- What is told of a facet that is handed out, as it crosses to another language.
use Rattle.std.specs.Prelude.{cond, Option, Some, None, List, ℕ, ltb, Float, length}
use Rattle.surface_rules.specs.Buffers.{over}
use Rattle.stl_facets.specs.declared.Facet.{Facet}
use Rattle.stl_facets.specs.Facets.{facet_at, behind, floats_of}

-- how many floats there are, the place from which to go on, and the floats that are left
pub record Handed : Type 0 where
  pub count : ℕ
  pub at : ℕ
  pub floats : List Float

abbrev pub handed : ℕ → ℕ → List Float → Handed
handed count at floats = record { count = count; at = at; floats = floats }

-- a facet's floats lie over the buffer's start, and the place is behind it; at the end nothing changes
abbrev pub handed_at : Option Facet → List ℕ → ℕ → List Float → Handed
handed_at (Some facet) file at floats = handed 9 (behind file at) (over (floats_of facet) floats)
handed_at None file at floats = handed 0 at floats

-- nor does it for a buffer of fewer than nine floats
unfoldable pub hands_out : List ℕ → ℕ → List Float → Handed
hands_out file at floats = cond (ltb (length floats) 9) (handed 0 at floats) (handed_at (facet_at file at) file at floats)
