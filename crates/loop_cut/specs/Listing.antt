-- The loops as they are left in buffers: rings, lengths and first half-edges, each from its buffer's start.
use Rattle.std.specs.Prelude.{◌≡◌, ℕ, length, get_or}
use mathlib.Core.List.{List, map, flatten}
use Rattle.surface_rules.specs.Buffers.{over}
use Rattle.loop_rules.specs.Loops.{ring}
use Rattle.loop_cut.specs.declared.Listed.{Listed}

-- all ring vertices, ring after ring
unfoldable pub rings_of : List ℕ → List (List ℕ) → List ℕ
rings_of corners ls = flatten (map (ring corners) ls)

-- the half-edge that a loop is listed from
abbrev pub first_of : List ℕ → ℕ
first_of l = get_or l 0 0

-- what is left and answered for the loops ls
pub record ListsLoops (corners : List ℕ) (ls : List (List ℕ)) (rings lengths firsts : List ℕ) (at : Listed) (rings' lengths' firsts' : List ℕ) : Type 0 where
  pub count : at.loops ≡ length ls
  pub vertices : at.vertices ≡ length (rings_of corners ls)
  pub all_rings : rings' ≡ over (rings_of corners ls) rings
  pub all_lengths : lengths' ≡ over (map length ls) lengths
  pub all_firsts : firsts' ≡ over (map first_of ls) firsts
