-- The digits of a word: what or, and, not and a shift make of them, and that they are all there is to a word. Each law is over any width.
use mathlib.Core.Path.{◌≡◌, refl, sym, ap, ap₂, ◌∙◌, subst}
use mathlib.Core.Bool.{Bool, true, false, not, ◌&&◌, ◌||◌}
use mathlib.Core.Logic.{◌⊎◌, inl, inr, ⊎_elim, ◌↔◌}
use Prim.Native.Nat.{ℕ, zero, suc, ◌+◌, ◌-◌, ◌*◌, ◌/◌, ◌%◌, ◌^◌, ◌<◌, ◌≤◌}
use native.Mathlib.Nat.{not-suc-le-zero, le_refl, eq-or-lt_of_le, le_of_suc-le-suc, mul_assoc, pow-suc, mod-lt, zero-lt-suc, zero-div, div-eq_of_lt}
use native.Mathlib.Omega.{arith}
use lib.Arith.{lt-one}
use lib.Bits.{bit_and, bit_or, and_shr, and_mod, or_shr, or_mod, and_mask, shifted_even}
use lib.Dec.{eqb, leb, ltb, eqb-suc-zero}
use lib.Pow.{pow_pos, pow_mono, pow-add, high, low, split, field, mod-mod-pow, shr_lt, shl-shr, shr-shr, ones_lt}
use borrow.Author.Tests.{eq-eqb, ne_eqb, le-leb, lt-leb, lt-ltb, le-ltb, leb-true, leb-false}
use Rattle.cover_bits.specs.Workings.Masks.{bit}

le_or_lt : (a b : ℕ) → (a ≤ b) ⊎ (b < a)
le_or_lt a b = go (leb a b) refl
  where
    go : (t : Bool) → leb a b ≡ t → (a ≤ b) ⊎ (b < a)
    go true e = inl (leb-true a b e)
    go false e = inr (leb-false a b e)

-- ---- single digits

abbrev flag : Bool → ℕ
flag true = 1
flag false = 0

flag_bit : (t : Bool) → eqb (flag t % 2) 1 ≡ t
flag_bit true = refl
flag_bit false = refl

one_digit : (d : ℕ) → d < 2 → flag (eqb (d % 2) 1) ≡ d
one_digit zero l = refl
one_digit (suc zero) l = refl
one_digit (suc (suc d)) l = absurd (omega arith)

-- a law of two digits that holds of the digits 0 and 1 holds of all
by_digits : (P : ℕ → ℕ → Type 0) → P 0 0 → P 0 1 → P 1 0 → P 1 1 → (a b : ℕ) → a < 2 → b < 2 → P a b
by_digits P p q r s zero zero l m = p
by_digits P p q r s zero (suc zero) l m = q
by_digits P p q r s (suc zero) zero l m = r
by_digits P p q r s (suc zero) (suc zero) l m = s
by_digits P p q r s (suc (suc a)) b l m = absurd (omega arith)
by_digits P p q r s zero (suc (suc b)) l m = absurd (omega arith)
by_digits P p q r s (suc zero) (suc (suc b)) l m = absurd (omega arith)

or_digits : (a b : ℕ) → a < 2 → b < 2 → eqb (bit_or a b) 1 ≡ (eqb a 1 || eqb b 1)
or_digits = by_digits (λ (a b : ℕ). eqb (bit_or a b) 1 ≡ (eqb a 1 || eqb b 1)) refl refl refl refl

and_digits : (a b : ℕ) → a < 2 → b < 2 → eqb (bit_and a b) 1 ≡ (eqb a 1 && eqb b 1)
and_digits = by_digits (λ (a b : ℕ). eqb (bit_and a b) 1 ≡ (eqb a 1 && eqb b 1)) refl refl refl refl

digit : (n : ℕ) → n % 2 < 2
digit n = mod-lt n (zero-lt-suc 1)

-- ---- or, and, zero

pub or_bit : (x y j : ℕ) → bit (bit_or x y) j ≡ (bit x j || bit y j)
unfolding bit
or_bit x y j =
    ap (λ (z : ℕ). eqb (z % 2 ^ 1) 1) (or_shr x y j)
    ∙ ap (λ (z : ℕ). eqb z 1) (or_mod (x / 2 ^ j) (y / 2 ^ j) 1)
    ∙ or_digits (x / 2 ^ j % 2) (y / 2 ^ j % 2) (digit (x / 2 ^ j)) (digit (y / 2 ^ j))

pub and_bit : (x y j : ℕ) → bit (bit_and x y) j ≡ (bit x j && bit y j)
unfolding bit
and_bit x y j =
    ap (λ (z : ℕ). eqb (z % 2 ^ 1) 1) (and_shr x y j)
    ∙ ap (λ (z : ℕ). eqb z 1) (and_mod (x / 2 ^ j) (y / 2 ^ j) 1)
    ∙ and_digits (x / 2 ^ j % 2) (y / 2 ^ j % 2) (digit (x / 2 ^ j)) (digit (y / 2 ^ j))

pub bit_zero : (j : ℕ) → bit 0 j ≡ false
unfolding bit
bit_zero j = ap (λ (z : ℕ). eqb (z % 2) 1) (zero-div (2 ^ j))

-- ---- the lowest digits

-- a digit below n is one of the n lowest
pub bit_low : (x n j : ℕ) → j < n → bit (x % 2 ^ n) j ≡ bit x j
unfolding bit
bit_low x n j l =
    let i : ℕ = n - j in
    let e : n ≡ i + j = omega arith in
    let f : i ≡ (i - 1) + 1 = omega arith in
    ap (λ (z : ℕ). eqb z 1)
    (ap (λ (z : ℕ). x % 2 ^ z / 2 ^ j % 2) e
    ∙ ap (λ (z : ℕ). z % 2) (field x i j)
    ∙ ap (λ (z : ℕ). x / 2 ^ j % 2 ^ z % 2 ^ 1) f
    ∙ mod-mod-pow (x / 2 ^ j) (i - 1) 1)

-- a word of n digits has no digit from n on
pub bit_past : (x n j : ℕ) → x < 2 ^ n → n ≤ j → bit x j ≡ false
unfolding bit
bit_past x n j l m =
    let w : 2 ^ n ≤ 2 ^ j = pow_mono m in
    let s : x < 2 ^ j = omega arith in
    ap (λ (z : ℕ). eqb (z % 2) 1) (div-eq_of_lt s)

-- ---- a word from its digits

-- the number whose digits below n are set where p holds
word : (ℕ → Bool) → ℕ → ℕ
word p zero = 0
word p (suc n) = let rest = word p n in flag (p n) * 2 ^ n + rest

word_lt : (p : ℕ → Bool) (n : ℕ) → word p n < 2 ^ n
unfolding word
word_lt p zero = omega arith
word_lt p (suc n) = go (word_lt p n) (p n)
  where
    go : word p n < 2 ^ n → (t : Bool) → flag t * 2 ^ n + word p n < 2 ^ suc n
    go r true = let e : 2 ^ suc n ≡ 2 ^ n * 2 = pow-suc 2 n in omega arith
    go r false = let e : 2 ^ suc n ≡ 2 ^ n * 2 = pow-suc 2 n in omega arith

word_same : (p q : ℕ → Bool) (n : ℕ) → ((j : ℕ) → j < n → p j ≡ q j) → word p n ≡ word q n
unfolding word
word_same p q zero w = refl
word_same p q (suc n) w = ap₂ (λ (b : Bool) (r : ℕ). flag b * 2 ^ n + r) (w n (le_refl (suc n))) (word_same p q n (λ j l. w j (omega arith)))

word_bit : (p : ℕ → Bool) (n j : ℕ) → j < n → bit (word p n) j ≡ p j
unfolding word bit
word_bit p zero j l = absurd (not-suc-le-zero l)
word_bit p (suc n) j l = go (word_bit p n j) (eq-or-lt_of_le (le_of_suc-le-suc l))
  where
    highest : bit (flag (p n) * 2 ^ n + word p n) n ≡ p n
    highest = ap (λ (z : ℕ). eqb (z % 2) 1) (high (flag (p n)) n (word_lt p n)) ∙ flag_bit (p n)

    go : (j < n → bit (word p n) j ≡ p j) → (j ≡ n) ⊎ (j < n) → bit (flag (p n) * 2 ^ n + word p n) j ≡ p j
    go r (inl e) = rw e highest
    go r (inr m) = sym (bit_low (flag (p n) * 2 ^ n + word p n) n j m) ∙ ap (λ (z : ℕ). bit z j) (low (flag (p n)) n (word_lt p n)) ∙ r m

-- a number is the word of its digits
word_of : (n x : ℕ) → x < 2 ^ n → word (bit x) n ≡ x
unfolding word bit
word_of zero x l = sym (lt-one l)
word_of (suc n) x l =
    let r : x % 2 ^ n < 2 ^ n = mod-lt x (pow_pos n) in
    let s : word (bit x) n ≡ x % 2 ^ n = word_same (bit x) (bit (x % 2 ^ n)) n (λ j m. sym (bit_low x n j m)) ∙ word_of n (x % 2 ^ n) r in
    ap₂ (λ (a b : ℕ). a * 2 ^ n + b) (one_digit (x / 2 ^ n) (shr_lt 1 n (subst (λ (z : ℕ). x < 2 ^ z) (sym (omega arith)) l))) s
    ∙ split x n

-- two words with the same digits are one
pub bits_same : (n x y : ℕ) → x < 2 ^ n → y < 2 ^ n → ((j : ℕ) → j < n → bit x j ≡ bit y j) → x ≡ y
bits_same n x y l m w = sym (word_of n x l) ∙ word_same (bit x) (bit y) n w ∙ word_of n y m

-- a word is 0 if no digit is set, and only then
pub zero_bits : (n x : ℕ) → x < 2 ^ n → (x ≡ 0) ↔ ((j : ℕ) → j < n → bit x j ≡ false)
zero_bits n x l = (
  λ e j m. ap (λ (z : ℕ). bit z j) e ∙ bit_zero j,
  λ w. bits_same n x 0 l (pow_pos n) (λ j m. w j m ∙ sym (bit_zero j)),
)

-- ---- not

word_not : (p : ℕ → Bool) (n : ℕ) → word p n + word (λ (j : ℕ). not (p j)) n + 1 ≡ 2 ^ n
unfolding word
word_not p zero = refl
word_not p (suc n) = go (word_not p n) (p n)
  where
    go : word p n + word (λ (j : ℕ). not (p j)) n + 1 ≡ 2 ^ n → (t : Bool) → (flag t * 2 ^ n + word p n) + (flag (not t) * 2 ^ n + word (λ (j : ℕ). not (p j)) n) + 1 ≡ 2 ^ suc n
    go r true = let e : 2 ^ suc n ≡ 2 ^ n * 2 = pow-suc 2 n in omega arith
    go r false = let e : 2 ^ suc n ≡ 2 ^ n * 2 = pow-suc 2 n in omega arith

pub not_bit : (n x j : ℕ) → x < 2 ^ n → j < n → bit (2 ^ n - 1 - x) j ≡ not (bit x j)
not_bit n x j l m =
    let e : word (bit x) n ≡ x = word_of n x l in
    let s : word (bit x) n + word (λ (i : ℕ). not (bit x i)) n + 1 ≡ 2 ^ n = word_not (bit x) n in
    let q : 2 ^ n - 1 - x ≡ word (λ (i : ℕ). not (bit x i)) n = omega arith in
    ap (λ (z : ℕ). bit z j) q ∙ word_bit (λ (i : ℕ). not (bit x i)) n j m

-- x & !y
pub less_bit : (n x y j : ℕ) → y < 2 ^ n → j < n → bit (bit_and x (2 ^ n - 1 - y)) j ≡ (bit x j && not (bit y j))
less_bit n x y j l m = and_bit x (2 ^ n - 1 - y) j ∙ ap (λ (t : Bool). bit x j && t) (not_bit n y j l m)

-- ---- shifts

pub up_bit : (a k j : ℕ) → k ≤ j → bit (a * 2 ^ k) j ≡ bit a (j - k)
unfolding bit
up_bit a k j l =
    let e : j ≡ k + (j - k) = omega arith in
    ap (λ (z : ℕ). eqb (z % 2) 1)
    (ap (λ (z : ℕ). a * 2 ^ k / 2 ^ z) e ∙ sym (shr-shr (a * 2 ^ k) k (j - k)) ∙ ap (λ (z : ℕ). z / 2 ^ (j - k)) (shl-shr a k))

pub up_bit_below : (a k j : ℕ) → j < k → bit (a * 2 ^ k) j ≡ false
unfolding bit
up_bit_below a k j l =
    let i : ℕ = k - j - 1 in
    let e : k ≡ suc i + j = omega arith in
    ap (λ (z : ℕ). eqb (z % 2) 1) (ap (λ (z : ℕ). z / 2 ^ j) (ap (λ (z : ℕ). a * 2 ^ z) e ∙ ap (λ (z : ℕ). a * z) (pow-add 2 (suc i) j) ∙ sym (mul_assoc a (2 ^ suc i) (2 ^ j))) ∙ shl-shr (a * 2 ^ suc i) j)
    ∙ ap (λ (z : ℕ). eqb z 1) (shifted_even a i)

-- a << k in a word of n digits
pub shift_bit : (n a k j : ℕ) → j < n → bit (a * 2 ^ k % 2 ^ n) j ≡ (leb k j && bit a (j - k))
shift_bit n a k j l =
    bit_low (a * 2 ^ k) n j l
    ∙ ⊎_elim
    (λ (m : k ≤ j). up_bit a k j m ∙ sym (ap (λ (t : Bool). t && bit a (j - k)) (le-leb k j m)))
    (λ (m : j < k). up_bit_below a k j m ∙ sym (ap (λ (t : Bool). t && bit a (j - k)) (lt-leb k j m)))
    (le_or_lt k j)

bit_one : (i : ℕ) → bit 1 i ≡ eqb i 0
unfolding bit
bit_one zero = refl
bit_one (suc i) = bit_past 1 1 (suc i) (omega arith) (omega arith) ∙ sym (eqb-suc-zero i)

-- 1 << k
pub one_bit : (n k j : ℕ) → j < n → bit (1 * 2 ^ k % 2 ^ n) j ≡ eqb j k
one_bit n k j l = shift_bit n 1 k j l ∙ ap (λ (t : Bool). leb k j && t) (bit_one (j - k)) ∙ go (le_or_lt k j)
  where
    go : (k ≤ j) ⊎ (j < k) → (leb k j && eqb (j - k) 0) ≡ eqb j k
    go (inl m) = ap (λ (t : Bool). t && eqb (j - k) 0) (le-leb k j m) ∙ ⊎_elim (λ (e : k ≡ j). eq-eqb (j - k) 0 (omega arith) ∙ sym (eq-eqb j k (sym e))) (λ (q : k < j). ne_eqb (j - k) 0 (λ e. omega arith) ∙ sym (ne_eqb j k (λ e. omega arith))) (eq-or-lt_of_le m)
    go (inr m) = ap (λ (t : Bool). t && eqb (j - k) 0) (lt-leb k j m) ∙ sym (ne_eqb j k (λ e. omega arith))

-- ---- as the code computes them

pub set_is : (x k : ℕ) → eqb (bit_and (x / 2 ^ k) 1) 1 ≡ bit x k
unfolding bit
set_is x k = ap (λ (z : ℕ). eqb z 1) (and_mask (x / 2 ^ k) 1)

-- x | 1 << k
pub with_bit : (n x k j : ℕ) → j < n → bit (bit_or x (1 * 2 ^ k % 2 ^ n)) j ≡ (bit x j || eqb j k)
with_bit n x k j l = or_bit x (1 * 2 ^ k % 2 ^ n) j ∙ ap (λ (t : Bool). bit x j || t) (one_bit n k j l)

-- ---- rows of ones

pub ones_bit : (k j : ℕ) → bit (2 ^ k - 1) j ≡ ltb j k
ones_bit k j =
    ⊎_elim
    (λ (l : k ≤ j). bit_past (2 ^ k - 1) k j (ones_lt k) l ∙ sym (le-ltb j k l))
    (λ (l : j < k).
    let e : 2 ^ k - 1 ≡ 2 ^ k - 1 - 0 = omega arith in
    ap (λ (z : ℕ). bit z j) e ∙ not_bit k 0 j (pow_pos k) l ∙ ap not (bit_zero j) ∙ sym (lt-ltb j k l))
    (le_or_lt k j)

-- a window of w ones from k on
pub window_bit : (n w k j : ℕ) → j < n → bit ((2 ^ w - 1) * 2 ^ k % 2 ^ n) j ≡ (leb k j && ltb (j - k) w)
window_bit n w k j l = shift_bit n (2 ^ w - 1) k j l ∙ ap (λ (t : Bool). leb k j && t) (ones_bit w (j - k))
