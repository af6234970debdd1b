-- The table of what the bytes weigh as digits: one more digit is marked, and four bytes by it are four digits read.
use mathlib.Core.Path.{◌≡◌, sym, ap, ◌∙◌}
use mathlib.Core.Bool.{false, cond}
use mathlib.Core.List.{List, ◌∷◌}
use mathlib.Core.Logic.{◌⊎◌, inl, inr}
use Prim.Native.Nat.{ℕ, suc, ◌+◌, ◌*◌, ◌<◌, ◌≤◌}
use native.Mathlib.Nat.{mul-le-mul}
use native.Mathlib.Omega.{arith}
use lib.Dec.{ltb}
use lib.ListN.{length, drop, get_or, set, replicate, length-set, length-replicate, get_or-replicate}
use mir.Val.{Fits}
use mir.Syntax.{w8}
use lib.Seq.{drop-cons, get_or-set_same, get_or-set_other}
use borrow.Author.Tests.{lt-ltb, le-ltb, eq-eqb, ne_eqb}
use Rattle.surface_rules.proofs.Laws.Tests.{eq_or_not}
use Rattle.text_digits.specs.Numeral.{byte_of}
use Rattle.text_digits.specs.Workings.Reading.{wrong, got, value_of, digits, ending, read_hex}
use Rattle.text_digits.proofs.Laws.Digit.{lt_or_ge, value_byte, byte_value, byte_small}
use Rattle.text_hex.specs.Workings.Tables.{weighs, Marked, half}

pub weigh_digit : (n t x : ℕ) → value_of x < n → weighs n t x ≡ t * value_of x
unfolding weighs
weigh_digit n t x h = rw (lt-ltb _ _ h)

pub weigh_none : (n t x : ℕ) → n ≤ value_of x → weighs n t x ≡ 65536
unfolding weighs
weigh_none n t x h = rw (le-ltb _ _ h)

pub weigh_most : (n t x : ℕ) → n ≤ 16 → t ≤ 16 → weighs n t x ≤ 65536
weigh_most n t x h l = go (lt_or_ge (value_of x) n)
  where
    times : (a b : ℕ) → a ≤ 16 → b ≤ 16 → a * b ≤ 16 * 16
    times a b h l = mul-le-mul h l

    go : (value_of x < n) ⊎ (n ≤ value_of x) → weighs n t x ≤ 65536
    go (inl d) = rw (weigh_digit n t x d) (omega (arith, times t (value_of x) l (omega arith)))
    go (inr d) = rw (weigh_none n t x d) (omega arith)

-- no digit is marked yet
pub mark_none : Marked 0 (replicate 512 65536)
mark_none = record {
  long = length-replicate {A = ℕ} 512 65536;
  low = λ x h. get_or-replicate {A = ℕ} 512 x 65536 0 (omega arith) ∙ sym (weigh_none 0 1 x (omega arith));
  high = λ x h. get_or-replicate {A = ℕ} 512 (256 + x) 65536 0 (omega arith) ∙ sym (weigh_none 0 16 x (omega arith));
}

-- only the byte of a digit weighs otherwise once the digit is marked
weigh_next : (d t x : ℕ) → d < 16 → (x ≡ byte_of d → ⊥) → weighs (d + 1) t x ≡ weighs d t x
weigh_next d t x h n = go (lt_or_ge (value_of x) d) (eq_or_not (value_of x) d)
  where
    go : (value_of x < d) ⊎ (d ≤ value_of x) → (value_of x ≡ d) ⊎ (value_of x ≡ d → ⊥) → weighs (d + 1) t x ≡ weighs d t x
    go (inl l) q = weigh_digit (d + 1) t x (omega arith) ∙ sym (weigh_digit d t x l)
    go (inr l) (inl q) = absurd (n (sym (byte_value x (omega arith)) ∙ ap byte_of q))
    go (inr l) (inr q) = weigh_none (d + 1) t x (omega arith) ∙ sym (weigh_none d t x l)

weigh_new : (d t : ℕ) → d < 16 → weighs (d + 1) t (byte_of d) ≡ t * d
weigh_new d t h = weigh_digit (d + 1) t (byte_of d) (rw (value_byte d h) (omega arith)) ∙ ap (λ (x : ℕ). t * x) (value_byte d h)

pub mark_more : {d b u v : ℕ} {values : List ℕ} → d < 16 → b ≡ byte_of d → u ≡ d → v ≡ 16 * d → Marked d values → Marked (d + 1) (set (set values b u) (256 + b) v)
mark_more {d} {b} {u} {v} {values} h e p q m =
    let small : b < 103 = rw e (byte_small d h) in
    record {
      long = length-set (set values b u) (256 + b) v ∙ length-set values b u ∙ m.long;
      low = λ x l. get_or-set_other (set values b u) (256 + b) x v 0 (λ z. omega arith) ∙ lower x l (eq_or_not x b);
      high = λ x l. higher x l (eq_or_not x b);
    }
  where
    lower : (x : ℕ) → x < 256 → (x ≡ b) ⊎ (x ≡ b → ⊥) → get_or (set values b u) x 0 ≡ weighs (d + 1) 1 x
    lower x l (inl z) =
        ap (λ (y : ℕ). get_or (set values b u) y 0) z ∙ get_or-set_same values b u 0 (omega (arith, m.long)) ∙ p ∙ omega (arith, weigh_new d 1 h, ap (weighs (d + 1) 1) (z ∙ e))
    lower x l (inr z) = get_or-set_other values b x u 0 z ∙ m.low x l ∙ sym (weigh_next d 1 x h (λ y. z (y ∙ sym e)))

    higher : (x : ℕ) → x < 256 → (x ≡ b) ⊎ (x ≡ b → ⊥) → get_or (set (set values b u) (256 + b) v) (256 + x) 0 ≡ weighs (d + 1) 16 x
    higher x l (inl z) =
        ap (λ (y : ℕ). get_or (set (set values b u) (256 + b) v) (256 + y) 0) z
        ∙ get_or-set_same (set values b u) (256 + b) v 0 (rw length-set (omega (arith, m.long, byte_small d h, e)))
        ∙ q ∙ sym (weigh_new d 16 h) ∙ ap (weighs (d + 1) 16) (sym (z ∙ e))
    higher x l (inr z) =
        get_or-set_other (set values b u) (256 + b) (256 + x) v 0 (λ y. z (omega arith))
        ∙ get_or-set_other values b (256 + x) u 0 (λ y. omega (arith, byte_small d h, e)) ∙ m.high x l ∙ sym (weigh_next d 16 x h (λ y. z (y ∙ sym e)))

-- four digits by their weights
abbrev Kind : ℕ → Type 0
Kind x = (value_of x < 16) ⊎ (16 ≤ value_of x)

four_digits : (k v a b c d : ℕ) (rest : List ℕ)
    → digits 16 (suc (suc (suc (suc k)))) v (a ∷ b ∷ c ∷ d ∷ rest) ≡ cond (ltb (half a b c d) 65536) (digits 16 k (v * 65536 + half a b c d) rest) wrong
unfolding digits half
four_digits k v a b c d rest = go (lt_or_ge (value_of a) 16) (lt_or_ge (value_of b) 16) (lt_or_ge (value_of c) 16) (lt_or_ge (value_of d) 16)
  where
    much : 65536 ≤ half a b c d → ltb (half a b c d) 65536 ≡ false
    much h = le-ltb (half a b c d) 65536 h

    go : Kind a → Kind b → Kind c → Kind d
        → digits 16 (suc (suc (suc (suc k)))) v (a ∷ b ∷ c ∷ d ∷ rest) ≡ cond (ltb (half a b c d) 65536) (digits 16 k (v * 65536 + half a b c d) rest) wrong
    go (inl p) (inl q) (inl r) (inl s) =
        let e : half a b c d ≡ 4096 * value_of a + 256 * value_of b + 16 * value_of c + value_of d = omega (arith, weigh_digit 16 16 a p, weigh_digit 16 1 b q, weigh_digit 16 16 c r, weigh_digit 16 1 d s) in
        rw (lt-ltb _ _ p, lt-ltb _ _ q, lt-ltb _ _ r, lt-ltb _ _ s, lt-ltb (half a b c d) 65536 (omega (arith, e))) (ap (λ (n : ℕ). digits 16 k n rest) (omega (arith, e)))
    go (inr p) q r s = rw (le-ltb _ _ p, much (omega (arith, weigh_none 16 16 a p)))
    go (inl p) (inr q) r s = rw (lt-ltb _ _ p, le-ltb _ _ q, much (omega (arith, weigh_none 16 1 b q)))
    go (inl p) (inl q) (inr r) s = rw (lt-ltb _ _ p, lt-ltb _ _ q, le-ltb _ _ r, much (omega (arith, weigh_none 16 16 c r)))
    go (inl p) (inl q) (inl r) (inr s) = rw (lt-ltb _ _ p, lt-ltb _ _ q, lt-ltb _ _ r, le-ltb _ _ s, much (omega (arith, weigh_none 16 1 d s)))

-- four bytes at a place
drop_four : (text : List ℕ) (i : ℕ) → i + 4 ≤ length text → drop i text ≡ get_or text i 0 ∷ get_or text (i + 1) 0 ∷ get_or text (i + 2) 0 ∷ get_or text (i + 3) 0 ∷ drop (i + 4) text
drop_four text i h =
    let z : suc (i + 3) ≡ i + 4 = omega arith in
    drop-cons text i 0 (omega arith)
    ∙ ap (λ (l : List ℕ). get_or text i 0 ∷ l)
    (one (i + 1) (suc i) (omega arith) (omega arith)
    ∙ ap (λ (l : List ℕ). get_or text (i + 1) 0 ∷ l)
    (one (i + 2) (suc (i + 1)) (omega arith) (omega arith)
    ∙ ap (λ (l : List ℕ). get_or text (i + 2) 0 ∷ l)
    (one (i + 3) (suc (i + 2)) (omega arith) (omega arith)
    ∙ ap (λ (n : ℕ). get_or text (i + 3) 0 ∷ drop n text) z)))
  where
    one : (n m : ℕ) → m ≡ n → n < length text → drop m text ≡ get_or text n 0 ∷ drop (suc n) text
    one n m e l = ap (λ (x : ℕ). drop x text) e ∙ drop-cons text n 0 l

module _ (text : List ℕ) where
  abbrev pub half_at : ℕ → ℕ
  half_at i = half (get_or text i 0) (get_or text (i + 1) 0) (get_or text (i + 2) 0) (get_or text (i + 3) 0)

  module _ (k v i : ℕ) (room : i + 4 ≤ length text) where
    four_right : half_at i < 65536 → digits 16 (suc (suc (suc (suc k)))) v (drop i text) ≡ digits 16 k (v * 65536 + half_at i) (drop (i + 4) text)
    four_right h = rw (drop_four text i room, four_digits, lt-ltb (half_at i) 65536 h)

    four_wrong : 65536 ≤ half_at i → digits 16 (suc (suc (suc (suc k)))) v (drop i text) ≡ wrong
    four_wrong h = rw (drop_four text i room, four_digits, le-ltb (half_at i) 65536 h)

module _ (text : List ℕ) (at e p q : ℕ) (room : at + 9 ≤ length text) (first : p ≡ half_at text at) (last : q ≡ half_at text (at + 4)) where
  pub hex_high : 65536 ≤ p → wrong ≡ read_hex e (drop at text)
  unfolding read_hex
  hex_high h = sym (rw (four_wrong text 4 0 at (omega arith) (omega (arith, first))))

  -- the first four digits, which are right
  module _ (h : p < 65536) where
    opened : digits 16 8 0 (drop at text) ≡ digits 16 4 (0 * 65536 + half_at text at) (drop (at + 4) text)
    opened = four_right text 4 0 at (omega arith) (omega (arith, first))

    pub hex_low : 65536 ≤ q → wrong ≡ read_hex e (drop at text)
    unfolding read_hex
    hex_low l = sym (rw (opened, four_wrong text 0 (0 * 65536 + half_at text at) (at + 4) (omega arith) (omega (arith, last))))

    module _ (l : q < 65536) where
      eight : digits 16 8 0 (drop at text) ≡ got (65536 * p + q) (drop (at + 8) text)
      unfolding digits
      eight =
          opened ∙ four_right text 0 (0 * 65536 + half_at text at) (at + 4) (omega arith) (omega (arith, last))
          ∙ ap (λ (n : ℕ). got n (drop (at + 4 + 4) text)) sum ∙ ap (λ (n : ℕ). got (65536 * p + q) (drop n text)) far
        where
          sum : (0 * 65536 + half_at text at) * 65536 + half_at text (at + 4) ≡ 65536 * p + q
          sum = omega (arith, first, last)

          far : at + 4 + 4 ≡ at + 8
          far = omega arith

      pub hex_unended : (get_or text (at + 8) 0 ≡ e → ⊥) → wrong ≡ read_hex e (drop at text)
      unfolding read_hex ending
      hex_unended n = sym (rw (eight, drop-cons text (at + 8) 0 (omega arith), ne_eqb _ _ n))

      pub hex_done : get_or text (at + 8) 0 ≡ e → got (65536 * p + q) (drop (at + 9) text) ≡ read_hex e (drop at text)
      unfolding read_hex ending
      hex_done n = sym (rw (eight, drop-cons text (at + 8) 0 (omega arith), eq-eqb _ _ n) (ap (λ (x : ℕ). got (65536 * p + q) (drop x text)) far))
        where
          far : suc (at + 8) ≡ at + 9
          far = omega arith

-- how much a byte weighs at most
pub record Weighed (values : List ℕ) (x : ℕ) : Type 0 where
  pub byte : x < 256
  pub low : get_or values x 0 ≤ 65536
  pub high : get_or values (256 + x) 0 ≤ 65536

-- four bytes of a text from a place on, by a table that is long enough
pub record Four (values text : List ℕ) (at : ℕ) : Type 0 where
  pub long : length values ≡ 512
  pub first : Weighed values (get_or text at 0)
  pub second : Weighed values (get_or text (at + 1) 0)
  pub third : Weighed values (get_or text (at + 2) 0)
  pub fourth : Weighed values (get_or text (at + 3) 0)

module _ {values : List ℕ} (m : Marked 16 values) where
  weighed : {x : ℕ} → Fits w8 x → Weighed values x
  weighed {x} f =
      let b : x < 256 = omega (arith, f) in
      record {
        byte = b;
        low = rw (m.low x b) (weigh_most 16 1 x (omega arith) (omega arith));
        high = rw (m.high x b) (weigh_most 16 16 x (omega arith) (omega arith));
      }

  pub four : {text : List ℕ} {at : ℕ} → ((i : ℕ) → Fits w8 (get_or text i 0)) → Four values text at
  four {text} {at} f =
      record { long = m.long; first = weighed (f at); second = weighed (f (at + 1)); third = weighed (f (at + 2)); fourth = weighed (f (at + 3)) }

  pub half_is : {text : List ℕ} {at : ℕ} → Four values text at
      → 256 * (get_or values (256 + get_or text at 0) 0 + get_or values (get_or text (at + 1) 0) 0) + (get_or values (256 + get_or text (at + 2) 0) 0 + get_or values (get_or text (at + 3) 0) 0)
      ≡ half (get_or text at 0) (get_or text (at + 1) 0) (get_or text (at + 2) 0) (get_or text (at + 3) 0)
  unfolding half
  half_is f = rw (m.high _ f.first.byte, m.low _ f.second.byte, m.high _ f.third.byte, m.low _ f.fourth.byte)
