-- A facet that is handed out, case by case.
use mathlib.Core.Path.{◌≡◌}
use mathlib.Core.List.{List}
use Prim.Native.Nat.{ℕ, ◌<◌, ◌≤◌}
use lib.Ieee.{Float}
use lib.ListN.{length}
use borrow.Author.Tests.{lt-ltb, le-ltb}
use Rattle.surface_rules.specs.Buffers.{over}
use Rattle.stl_facets.specs.declared.Facet.{Facet}
use Rattle.std.specs.Prelude.{Option, Some, None}
use Rattle.stl_facets.specs.Facets.{facet_at, behind, floats_of}
use Rattle.wazelpunt.specs.Facets.{handed, hands_out}

module _ (file : List ℕ) (at : ℕ) (floats : List Float) where
  pub hand_short : length floats < 9 → handed 0 at floats ≡ hands_out file at floats
  unfolding hands_out
  hand_short h = rw (lt-ltb (length floats) 9 h)

  module _ {s : Option Facet} (h : 9 ≤ length floats) (e : s ≡ facet_at file at) where
    pub hand_end : s ≡ None → handed 0 at floats ≡ hands_out file at floats
    unfolding hands_out
    hand_end g = rw (le-ltb (length floats) 9 h, ← e, g)

    pub hand_given : {facet : Facet} {after : ℕ} {laid : List Float} → s ≡ Some facet → laid ≡ over (floats_of facet) floats → after ≡ behind file at
        → handed 9 after laid ≡ hands_out file at floats
    unfolding hands_out
    hand_given g l a = rw (le-ltb (length floats) 9 h, ← e, g, l, a)
