-- A digit and its byte: each gives the other back.
use mathlib.Core.Path.{◌≡◌, refl, sym, ap, ◌∙◌}
use mathlib.Core.Bool.{Bool, true, false, cond}
use mathlib.Core.Logic.{◌⊎◌, inl, inr}
use Prim.Native.Nat.{ℕ, zero, suc, ◌+◌, ◌-◌, ◌/◌, ◌<◌, ◌≤◌, ◌^◌}
use native.Mathlib.Nat.{pow-succ', one-le-pow}
use native.Mathlib.Omega.{arith}
use lib.Dec.{ltb, leb}
use borrow.Author.Tests.{lt-ltb, le-ltb, le-leb, lt-leb, ltb-true, ltb-false}
use Rattle.text_digits.specs.Numeral.{byte_of, size, size_in}
use Rattle.text_digits.specs.Workings.Reading.{value_of}

pub lt_or_ge : (a b : ℕ) → (a < b) ⊎ (b ≤ a)
lt_or_ge a b = go (ltb a b) refl
  where
    go : (t : Bool) → ltb a b ≡ t → (a < b) ⊎ (b ≤ a)
    go true e = inl (ltb-true a b e)
    go false e = inr (ltb-false a b e)

-- the ways of a byte
pub value_ten : (b : ℕ) → 48 ≤ b → b ≤ 57 → value_of b ≡ b - 48
value_ten b h l = rw (le-leb _ _ h, le-leb _ _ l)

pub value_six : (b : ℕ) → 97 ≤ b → b ≤ 102 → value_of b ≡ b - 87
value_six b h l = rw (le-leb 48 b (omega arith), lt-leb b 57 (omega arith), le-leb _ _ h, le-leb _ _ l)

pub value_low : (b : ℕ) → b < 48 → value_of b ≡ 16
value_low b h = rw (lt-leb 48 b h, lt-leb 97 b (omega arith))

pub value_mid : (b : ℕ) → 57 < b → b < 97 → value_of b ≡ 16
value_mid b h l = rw (le-leb 48 b (omega arith), lt-leb b 57 h, lt-leb 97 b l)

pub value_high : (b : ℕ) → 102 < b → value_of b ≡ 16
value_high b h = rw (le-leb 48 b (omega arith), lt-leb b 57 (omega arith), le-leb 97 b (omega arith), lt-leb b 102 h)

pub byte_ten : (d : ℕ) → d < 10 → byte_of d ≡ 48 + d
byte_ten d h = rw (lt-ltb _ _ h)

pub byte_six : (d : ℕ) → 10 ≤ d → byte_of d ≡ 87 + d
byte_six d h = rw (le-ltb _ _ h)

pub value_byte : (d : ℕ) → d < 16 → value_of (byte_of d) ≡ d
value_byte d h = go (lt_or_ge d 10)
  where
    go : (d < 10) ⊎ (10 ≤ d) → value_of (byte_of d) ≡ d
    go (inl l) = ap value_of (byte_ten d l) ∙ value_ten (48 + d) (omega arith) (omega arith) ∙ omega arith
    go (inr l) = ap value_of (byte_six d l) ∙ value_six (87 + d) (omega arith) (omega arith) ∙ omega arith

pub byte_value : (b : ℕ) → value_of b < 16 → byte_of (value_of b) ≡ b
byte_value b h = go (lt_or_ge b 48) (lt_or_ge 57 b) (lt_or_ge b 97) (lt_or_ge 102 b)
  where
    none : value_of b ≡ 16 → ⊥
    none e = omega arith

    go : (b < 48) ⊎ (48 ≤ b) → (57 < b) ⊎ (b ≤ 57) → (b < 97) ⊎ (97 ≤ b) → (102 < b) ⊎ (b ≤ 102) → byte_of (value_of b) ≡ b
    go (inl a) p q r = absurd (none (value_low b a))
    go (inr a) (inr p) q r = ap byte_of (value_ten b a p) ∙ byte_ten (b - 48) (omega arith) ∙ omega arith
    go (inr a) (inl p) (inl q) r = absurd (none (value_mid b p q))
    go (inr a) (inl p) (inr q) (inl r) = absurd (none (value_high b r))
    go (inr a) (inl p) (inr q) (inr r) = ap byte_of (value_six b q r) ∙ byte_six (b - 87) (omega arith) ∙ omega arith

-- the size of a number: it fits, and fewer digits would not do
pub size_one : (n : ℕ) → n < 10 → size n ≡ 1
unfolding size_in
size_one n h = go n h
  where
    go : (f : ℕ) → n < 10 → size_in f n ≡ 1
    go zero l = refl
    go (suc f) l = rw (lt-ltb _ _ l)

size_in_is : (j f n : ℕ) → n ≤ f → n < 10 ^ suc j → (j ≡ 0) ⊎ (10 ^ j ≤ n) → size_in f n ≡ suc j
unfolding size_in
size_in_is zero zero n m h l = refl
size_in_is (suc j) zero n m h (inl e) = absurd (omega arith)
size_in_is (suc j) zero n m h (inr l) = absurd (omega (arith, one-le-pow (suc j) 10 (omega arith)))
size_in_is zero (suc f) n m h l = rw (lt-ltb n 10 h)
size_in_is (suc j) (suc f) n m h (inl e) = absurd (omega arith)
size_in_is (suc j) (suc f) n m h (inr l) =
    rw (le-ltb n 10 ten) (ap suc (size_in_is j f (n / 10) (omega arith) less (inr more)))
  where
    ten : 10 ≤ n
    ten = omega (arith, pow-succ' 10 j, one-le-pow j 10 (omega arith))

    less : n / 10 < 10 ^ suc j
    less = omega (arith, pow-succ' 10 (suc j))

    more : 10 ^ j ≤ n / 10
    more = omega (arith, pow-succ' 10 j)

pub size_is : (j n : ℕ) → n < 10 ^ suc j → (j ≡ 0) ⊎ (10 ^ j ≤ n) → size n ≡ suc j
size_is j n h l = size_in_is j n n (omega arith) h l

size_in_fits : (f n : ℕ) → n ≤ f → n < 10 ^ size_in f n
unfolding size_in
size_in_fits zero n h = omega arith
size_in_fits (suc f) n h = go (lt_or_ge n 10) (λ (l : 10 ≤ n). size_in_fits f (n / 10) (omega arith))
  where
    go : (n < 10) ⊎ (10 ≤ n) → (10 ≤ n → n / 10 < 10 ^ size_in f (n / 10)) → n < 10 ^ size_in (suc f) n
    go (inl l) r = rw (lt-ltb _ _ l) l
    go (inr l) r = rw (le-ltb _ _ l) (omega (arith, pow-succ' 10 (size_in f (n / 10)), r l))

pub size_fits : (n : ℕ) → n < 10 ^ size n
size_fits n = size_in_fits n n (omega arith)

size_in_pos : (f n : ℕ) → 1 ≤ size_in f n
unfolding size_in
size_in_pos zero n = omega arith
size_in_pos (suc f) n = go (ltb n 10)
  where
    go : (t : Bool) → 1 ≤ cond t 1 (suc (size_in f (n / 10)))
    go true = omega arith
    go false = omega arith

pub size_pos : (n : ℕ) → 1 ≤ size n
size_pos n = size_in_pos n n

pub byte_small : (d : ℕ) → d < 16 → byte_of d < 103
byte_small d h = go (lt_or_ge d 10)
  where
    go : (d < 10) ⊎ (10 ≤ d) → byte_of d < 103
    go (inl l) = rw (byte_ten d l) (omega arith)
    go (inr l) = rw (byte_six d l) (omega arith)

-- a decimal digit is a byte from '0' to '9'
pub value_under : (b : ℕ) → value_of b < 10 → (48 ≤ b) × (b ≤ 57) × (value_of b ≡ b - 48)
value_under b h = go (lt_or_ge b 48) (lt_or_ge 57 b) (lt_or_ge b 97) (lt_or_ge 102 b)
  where
    none : value_of b ≡ 16 → ⊥
    none e = omega arith

    six : value_of b ≡ b - 87 → 97 ≤ b → ⊥
    six e l = omega arith

    go : (b < 48) ⊎ (48 ≤ b) → (57 < b) ⊎ (b ≤ 57) → (b < 97) ⊎ (97 ≤ b) → (102 < b) ⊎ (b ≤ 102) → (48 ≤ b) × (b ≤ 57) × (value_of b ≡ b - 48)
    go (inl a) p q r = absurd (none (value_low b a))
    go (inr a) (inr p) q r = (a, p, value_ten b a p)
    go (inr a) (inl p) (inl q) r = absurd (none (value_mid b p q))
    go (inr a) (inl p) (inr q) (inl r) = absurd (none (value_high b r))
    go (inr a) (inl p) (inr q) (inr r) = absurd (six (value_six b q r) q)

pub under_ten : (b : ℕ) → 48 ≤ b → leb b 57 ≡ ltb (value_of b) 10
under_ten b h = go (lt_or_ge 57 b)
  where
    go : (57 < b) ⊎ (b ≤ 57) → leb b 57 ≡ ltb (value_of b) 10
    go (inl l) = lt-leb b 57 l ∙ sym (le-ltb (value_of b) 10 (over l (lt_or_ge (value_of b) 10)))
      where
        over : 57 < b → (value_of b < 10) ⊎ (10 ≤ value_of b) → 10 ≤ value_of b
        over m (inl u) = absurd (omega (arith, (value_under b u).1))
        over m (inr u) = u
    go (inr l) = le-leb b 57 l ∙ sym (lt-ltb (value_of b) 10 (rw (value_ten b h l) (omega arith)))

pub not_under : (b : ℕ) → b < 48 → false ≡ ltb (value_of b) 10
not_under b h = sym (rw (value_low b h))
