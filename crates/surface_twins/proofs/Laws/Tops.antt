-- The greatest index with a property: it has the property, and nothing from it on has it, by one step for each index.
use mathlib.Core.Path.{◌≡◌, refl, sym, ap, ◌∙◌}
use mathlib.Core.Bool.{Bool, true, false}
use mathlib.Core.Logic.{⊎_elim}
use Prim.Native.Nat.{ℕ, zero, suc, ◌+◌, ◌<◌, ◌≤◌, zero-le}
use native.Mathlib.Numerals.{add-one}
use native.Mathlib.Nat.{not-suc-le-zero, le_refl, eq-or-lt_of_le, le_of_suc-le-suc}
use native.Mathlib.Omega.{arith}
use Rattle.surface_twins.specs.Workings.Chains.{top, pick}

module _ (p : ℕ → Bool) where
  pub top_none : top p 0 ≡ 0
  unfolding top
  top_none = refl

  pub top_hit : (n : ℕ) → p n ≡ true → top p (n + 1) ≡ n + 1
  unfolding top
  top_hit n e = rw (add-one, e)

  pub top_miss : (n : ℕ) → p n ≡ false → top p (n + 1) ≡ top p n
  unfolding top
  top_miss n e = rw (add-one, e)

  pub top_le : (n : ℕ) → top p n ≤ n
  unfolding top
  top_le zero = zero-le
  top_le (suc n) = go (top_le n) (p n)
    where
      go : top p n ≤ n → (t : Bool) → pick t (suc n) (top p n) ≤ suc n
      go r true = le_refl (suc n)
      go r false = omega arith

  -- what it finds has the property
  pub top_says : (n j : ℕ) → top p n ≡ suc j → p j ≡ true
  unfolding top
  top_says zero j e = absurd (omega arith)
  top_says (suc n) j e = go (top_says n j) (p n) refl e
    where
      go : (top p n ≡ suc j → p j ≡ true) → (t : Bool) → p n ≡ t → pick t (suc n) (top p n) ≡ suc j → p j ≡ true
      go r true d q = let z : n ≡ j = omega arith in ap p (sym z) ∙ d
      go r false d q = r q

  -- and nothing from it on has it
  pub top_never : (n k : ℕ) → top p n ≤ k → k < n → p k ≡ false
  unfolding top
  top_never zero k a l = absurd (not-suc-le-zero l)
  top_never (suc n) k a l = go (λ b m. top_never n k b m) (p n) refl a
    where
      go : (top p n ≤ k → k < n → p k ≡ false) → (t : Bool) → p n ≡ t → pick t (suc n) (top p n) ≤ k → p k ≡ false
      go r true d b = absurd (omega arith)
      go r false d b = ⊎_elim (λ q. ap p q ∙ d) (λ q. r b q) (eq-or-lt_of_le (le_of_suc-le-suc l))
