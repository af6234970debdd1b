-- Two listings of one stretch are equal: the stretch has a patch, and both list it.
use mathlib.Core.Path.{◌≡◌, sym, ◌∙◌}
use mathlib.Core.Logic.{inl, inr}
use mathlib.Core.List.{List}
use Prim.Native.Nat.{ℕ}
use lib.Ieee.{Float}
use Rattle.cover_rules.proofs.Laws.Steps.{patched, Patched}
use Rattle.cover_weight.specs.Edition.{naturals, tri_of}
use Rattle.cover_weight.proofs.Laws.Naturals.{naturals_lawful}
use Rattle.cover_trace.specs.Workings.Ways.{Weighable}
use Rattle.cover_trace.specs.Workings.Lists.{ListsPatch}

pub lists_once : (quarter : ℕ) (table : List Float) (ring buffer : List ℕ) (p i k : ℕ) → Weighable quarter table i k → (b c : List ℕ)
    → ListsPatch quarter table ring buffer p i k b → ListsPatch quarter table ring buffer p i k c → b ≡ c
lists_once quarter table ring buffer p i k h b c x y = go (patched naturals naturals_lawful (tri_of h.at) h.barred i k h.weighed.low)
  where
    go : Patched naturals (tri_of h.at) h.barred i k → b ≡ c
    go (inl d) = x h.at h.barred h.n h.w h.weighed d.0 d.1 ∙ sym (y h.at h.barred h.n h.w h.weighed d.0 d.1)
    go (inr n) = absurd (n h.weighed.least.cover h.weighed.least.among)
