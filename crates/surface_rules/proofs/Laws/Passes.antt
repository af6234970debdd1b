-- A pass over all indices that keeps whether a property was met: at its end it says whether there is a smallest index with it.
use Rattle.std.specs.Prelude.{Option, Some, None}
use mathlib.Core.Path.{◌≡◌, refl, ap, ◌∙◌}
use mathlib.Core.Bool.{Bool, true, false, not, ◌&&◌, cond}
use Prim.Native.Nat.{ℕ, ◌+◌}
use native.Mathlib.Numerals.{add-one}
use Rattle.surface_rules.specs.Smallest.{or_else, least, any}

module _ (p : ℕ → Bool) where
  pub all_none : true ≡ not (any (least p 0))
  unfolding least
  all_none = refl

  pub all_more : (all t : Bool) (i : ℕ) → all ≡ not (any (least p i)) → t ≡ p i → (all && not t) ≡ not (any (least p (i + 1)))
  unfolding least
  all_more all t i h e = rw (add-one, h, e) (go (least p i) (p i))
    where
      go : (f : Option ℕ) (b : Bool) → (not (any f) && not b) ≡ not (any (or_else f (cond b (Some i) None)))
      go (Some j) b = refl
      go None true = refl
      go None false = refl

  pub all_end : (all : Bool) (i n : ℕ) → all ≡ not (any (least p i)) → i ≡ n → all ≡ not (any (least p n))
  all_end all i n h e = h ∙ ap (λ (k : ℕ). not (any (least p k))) e
