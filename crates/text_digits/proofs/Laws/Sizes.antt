-- How many decimal digits a number has, by the units that it lies between.
use mathlib.Core.Path.{◌≡◌, refl, sym}
use mathlib.Core.Logic.{◌⊎◌, inl, inr}
use Prim.Native.Nat.{ℕ, zero, suc, ◌/◌, ◌<◌, ◌≤◌, ◌^◌}
use native.Mathlib.Nat.{pow-succ'}
use native.Mathlib.Omega.{arith}
use borrow.Author.Tests.{lt-ltb, le-ltb}
use Rattle.text_digits.specs.Numeral.{size, size_in}
use Rattle.text_digits.proofs.Laws.Digit.{size_is, lt_or_ge}

pub size_two : (n : ℕ) → 10 ≤ n → n < 100 → 2 ≡ size n
size_two n h l = sym (size_is 1 n l (inr h))

pub size_three : (n : ℕ) → 100 ≤ n → n < 1000 → 3 ≡ size n
size_three n h l = sym (size_is 2 n l (inr h))

pub size_four : (n : ℕ) → 1000 ≤ n → n < 10000 → 4 ≡ size n
size_four n h l = sym (size_is 3 n l (inr h))

pub size_five : (n : ℕ) → 10000 ≤ n → n < 100000 → 5 ≡ size n
size_five n h l = sym (size_is 4 n l (inr h))

pub size_most : (n : ℕ) → n < 100000 → size n ≤ 5
size_most n h = go (lt_or_ge n 10) (lt_or_ge n 100) (lt_or_ge n 1000) (lt_or_ge n 10000)
  where
    go : (n < 10) ⊎ (10 ≤ n) → (n < 100) ⊎ (100 ≤ n) → (n < 1000) ⊎ (1000 ≤ n) → (n < 10000) ⊎ (10000 ≤ n) → size n ≤ 5
    go (inl a) b c d = omega (arith, size_is 0 n a (inl refl))
    go (inr a) (inl b) c d = omega (arith, size_two n a b)
    go (inr a) (inr b) (inl c) d = omega (arith, size_three n b c)
    go (inr a) (inr b) (inr c) (inl d) = omega (arith, size_four n c d)
    go (inr a) (inr b) (inr c) (inr d) = omega (arith, size_five n d h)

size_in_below : (f j n : ℕ) → n < 10 ^ suc j → size_in f n ≤ suc j
unfolding size_in
size_in_below zero j n h = omega arith
size_in_below (suc f) j n h = go j h (lt_or_ge n 10) (λ (i : ℕ) (l : n / 10 < 10 ^ suc i). size_in_below f i (n / 10) l)
  where
    go : (j : ℕ) → n < 10 ^ suc j → (n < 10) ⊎ (10 ≤ n) → ((i : ℕ) → n / 10 < 10 ^ suc i → size_in f (n / 10) ≤ suc i) → size_in (suc f) n ≤ suc j
    go j h (inl l) r = rw (lt-ltb n 10 l) (omega arith)
    go zero h (inr l) r = absurd (omega (arith, h))
    go (suc i) h (inr l) r = rw (le-ltb n 10 l) (omega (arith, r i (omega (arith, pow-succ' 10 (suc i)))))

-- as many digits as the number needs, or fewer
pub size_below : (j n : ℕ) → n < 10 ^ suc j → size n ≤ suc j
size_below j n h = size_in_below n j n h
