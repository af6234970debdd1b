-- A search over one index more, or more, finds what it found, or else that index if it has the property.
use Rattle.std.specs.Prelude.{Option, Some, None}
use mathlib.Core.Path.{◌≡◌, refl}
use mathlib.Core.Bool.{Bool, false}
use Prim.Native.Nat.{ℕ, ◌+◌, ◌<◌, ◌≤◌}
use native.Mathlib.Numerals.{add-one}
use native.Mathlib.Omega.{arith}
use Rattle.surface_rules.specs.Smallest.{least, or_else}
use Rattle.surface_rules.proofs.Laws.Smallest.{least_sound, least_first, never_least, least_at}

or_nothing : (f : Option ℕ) → or_else f None ≡ f
or_nothing (Some i) = refl
or_nothing None = refl

module _ (p : ℕ → Bool) where
  pub least_skip : (n : ℕ) → p n ≡ false → least p (n + 1) ≡ least p n
  unfolding least
  least_skip n e = rw (add-one, e) (or_nothing (least p n))

  pub least_keeps : (n m i : ℕ) → least p n ≡ Some i → n ≤ m → least p m ≡ Some i
  least_keeps n m i e l =
      let s = least_sound p n i e in
      let b : i < n = s.0 in
      least_at p i m (never_least p i (least_first p n i e)) s.1 (omega arith)
