-- No n + 1 different numbers are all below n: without the last of them, and with the numbers above it moved down, they would be n different numbers below n - 1.
use mathlib.Core.Path.{◌≡◌, refl}
use mathlib.Core.Bool.{Bool, true, false}
use mathlib.Core.Logic.{◌⊎◌, inl, inr, ⊎_elim}
use Prim.Native.Nat.{ℕ, zero, suc, pred, ◌<◌, ◌≤◌}
use native.Mathlib.Nat.{not-suc-le-zero, le_refl}
use native.Mathlib.Omega.{arith}
use lib.Dec.{ltb}
use borrow.Author.Tests.{ltb-true, ltb-false}

-- x, with the numbers above v moved down by one
abbrev down : Bool → ℕ → ℕ
down true x = x
down false x = pred x

squash : ℕ → ℕ → ℕ
squash v x = down (ltb x v) x

squash_is : (v x : ℕ) → ((x < v) × (squash v x ≡ x)) ⊎ ((v ≤ x) × (squash v x ≡ pred x))
unfolding squash
squash_is v x = go (ltb x v) refl
  where
    go : (t : Bool) → ltb x v ≡ t → ((x < v) × (down t x ≡ x)) ⊎ ((v ≤ x) × (down t x ≡ pred x))
    go true e = inl (ltb-true x v e, refl)
    go false e = inr (ltb-false x v e, refl)

squash_below : (m v x : ℕ) → v < suc m → x < suc m → (x ≡ v → ⊥) → squash v x < m
squash_below m v x hv hx ne = ⊎_elim (λ w. omega arith) (λ w. omega arith) (squash_is v x)

squash_inj : (v x y : ℕ) → (x ≡ v → ⊥) → (y ≡ v → ⊥) → squash v x ≡ squash v y → x ≡ y
squash_inj v x y nx ny e =
    ⊎_elim (λ a. ⊎_elim (λ b. omega arith) (λ b. omega arith) (squash_is v y)) (λ a. ⊎_elim (λ b. omega arith) (λ b. omega arith) (squash_is v y)) (squash_is v x)

pub pigeon : (n : ℕ) (f : ℕ → ℕ) → ((i : ℕ) → i ≤ n → f i < n) → ((i j : ℕ) → i ≤ n → j ≤ n → f i ≡ f j → i ≡ j) → ⊥
pigeon zero f below inj = not-suc-le-zero (below zero (le_refl zero))
pigeon (suc m) f below inj =
    let other : (i : ℕ) → i ≤ m → f i ≡ f (suc m) → ⊥ = λ i h e. let q : i ≡ suc m = inj i (suc m) (omega arith) (le_refl (suc m)) e in omega arith in
    pigeon m (λ i. squash (f (suc m)) (f i))
    (λ i h. squash_below m (f (suc m)) (f i) (below (suc m) (le_refl (suc m))) (below i (omega arith)) (other i h))
    (λ i j h l e. inj i j (omega arith) (omega arith) (squash_inj (f (suc m)) (f i) (f j) (other i h) (other j l) e))

-- the same where it is known of two places in order that they differ
pub crowded : (n : ℕ) (f : ℕ → ℕ) → ((i : ℕ) → i ≤ n → f i < n) → ((i j : ℕ) → i < j → j ≤ n → f i ≡ f j → ⊥) → ⊥
crowded n f below differ =
    pigeon n f below
    (λ i j li lj e.
    let before : i < j → ⊥ = λ l. differ i j l lj e in
    let after : j < i → ⊥ = λ l. differ j i l li (cc) in
    omega arith)
