-- The first number from k on that a property holds of, if there is one.
use mathlib.Core.Path.{◌≡◌, sym, ◌∙◌}
use mathlib.Core.Bool.{Bool, false}
use mathlib.Core.Logic.{inl, inr}
use Prim.Native.Nat.{ℕ, ◌<◌, ◌≤◌}
use native.Mathlib.Omega.{arith}
use Rattle.rim_pieces.specs.Workings.Flooding.{none}
use Rattle.chart_lay.specs.Workings.Chaining.{Foremost, First}

module _ {p : ℕ → Bool} {k n : ℕ} where
  -- what is not `none` is one
  pub first_there : {m : ℕ} → (m ≡ none → ⊥) → First p k n m → Foremost p k n m
  first_there h (inl w) = absurd (h w.0)
  first_there h (inr f) = f

  -- and where it is `none`, it holds of none
  pub first_none : {m : ℕ} → n ≤ none → m ≡ none → First p k n m → (j : ℕ) → k ≤ j → j < n → p j ≡ false
  first_none h e (inl w) = w.1
  first_none h e (inr f) = let z = f.below in absurd (omega arith)

-- a property that agrees below n has the same first
pub first_same : {p q : ℕ → Bool} {k n m : ℕ} → ((j : ℕ) → j < n → p j ≡ q j) → First p k n m → First q k n m
first_same w (inl h) = inl (h.0, λ j a b. sym (w j b) ∙ h.1 j a b)
first_same {m = m} w (inr f) = inr (record {
  from = f.from;
  below = f.below;
  holds = sym (w m f.below) ∙ f.holds;
  first = λ j a b. sym (w j (let z = f.below in omega arith)) ∙ f.first j a b;
})
