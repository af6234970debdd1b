-- Reading a decimal number digit by digit, each step told over the byte that stands there. r is what reading gives.
use mathlib.Core.Path.{◌≡◌, refl, sym, ap, ◌∙◌}
use mathlib.Core.Bool.{Bool, true, false, not}
use mathlib.Core.List.{List}
use Prim.Native.Nat.{ℕ, ◌+◌, ◌-◌, ◌*◌, ◌<◌, ◌≤◌}
use native.Mathlib.Numerals.{add-one}
use native.Mathlib.Omega.{arith}
use lib.Dec.{ltb, eqb}
use lib.ListN.{length, drop, get_or, drop_of_length-le}
use lib.Seq.{drop-cons}
use borrow.Author.Tests.{ltb-true, eqb-true, eqb-false, le-leb, lt-leb, eq-eqb, ne_eqb, not-true, not-false}
use Rattle.text_digits.specs.Numeral.{size}
use Rattle.text_digits.specs.Workings.Reading.{Read, wrong, got, value_of, until, read_decimal}
use Rattle.text_digits.proofs.Laws.Digit.{value_under, size_pos}
use Rattle.text_digits.proofs.Laws.Sizes.{size_four}
use Rattle.text_decimal.proofs.Laws.Leads.{dec_full}

-- a byte of which `digit` says whether it is one
module _ (x : ℕ) (digit : Bool) (is : digit ≡ ltb (value_of x) 10) (t : not digit ≡ false) where
  under : value_of x < 10
  under = ltb-true (value_of x) 10 (sym is ∙ not-false digit t)

  pub digit_from : (48 ≤ x) × (x ≤ 57)
  digit_from = let u = value_under x under in (u.0, u.1)

  digit_is : value_of x ≡ x - 48
  digit_is = (value_under x under).2

pub dec_begin : (text : List ℕ) (e limit at : ℕ) → read_decimal e limit (drop at text) ≡ until e limit 0 0 (drop at text)
unfolding read_decimal
dec_begin text e limit at = refl

module _ (text : List ℕ) (e limit v k i : ℕ) (r : Read ℕ) (q : r ≡ until e limit v k (drop i text)) where
  pub dec_short : length text ≤ i → wrong ≡ r
  unfolding until
  dec_short l = sym (q ∙ rw (drop_of_length-le text l))

  module _ (l : i < length text) where
    pub dec_end : get_or text i 0 ≡ e → k ≡ size v → got v (drop (i + 1) text) ≡ r
    unfolding until
    dec_end d z = sym (q ∙ rw (drop-cons text i 0, eq-eqb _ _ d, eq-eqb _ _ z, add-one))

    pub dec_zeros : get_or text i 0 ≡ e → (k ≡ size v → ⊥) → wrong ≡ r
    unfolding until
    dec_zeros d z = sym (q ∙ rw (drop-cons text i 0, eq-eqb _ _ d, ne_eqb _ _ z))

    -- the same by an answer for the size
    pub dec_right : (s : ℕ) → s ≡ size v → get_or text i 0 ≡ e → k ≡ s → got v (drop (i + 1) text) ≡ r
    dec_right s z d w = dec_end d (w ∙ z)

    pub dec_led : (s : ℕ) → s ≡ size v → get_or text i 0 ≡ e → (k ≡ s → ⊥) → wrong ≡ r
    dec_led s z d w = dec_zeros d (λ u. w (u ∙ sym z))

    module _ (n : get_or text i 0 ≡ e → ⊥) (digit : Bool) (is : digit ≡ ltb (value_of (get_or text i 0)) 10) where
      pub dec_bad : not digit ≡ true → wrong ≡ r
      unfolding until
      dec_bad t = sym (q ∙ rw (drop-cons text i 0, ne_eqb _ _ n, ← is, not-true digit t))

      module _ (t : not digit ≡ false) where
        pub dec_big : limit < v * 10 + (get_or text i 0 - 48) → wrong ≡ r
        unfolding until
        dec_big m = sym (q ∙ rw (drop-cons text i 0, ne_eqb _ _ n, ← is, not-false digit t, digit_is _ digit is t, lt-leb _ _ m))

        pub dec_more : v * 10 + (get_or text i 0 - 48) ≤ limit → (j : ℕ) → j ≡ k + 1 → r ≡ until e limit (v * 10 + (get_or text i 0 - 48)) j (drop (i + 1) text)
        unfolding until
        dec_more m j z = q ∙ rw (z, drop-cons text i 0, ne_eqb _ _ n, ← is, not-false digit t, digit_is _ digit is t, le-leb _ _ m, add-one i)

-- the same where reading begins there
module _ (text : List ℕ) (e limit v k i : ℕ) (l : i < length text) where
  pub chain_end : get_or text i 0 ≡ e → k ≡ size v → got v (drop (i + 1) text) ≡ until e limit v k (drop i text)
  chain_end = dec_end text e limit v k i (until e limit v k (drop i text)) refl l

  module _ (n : get_or text i 0 ≡ e → ⊥) (digit : Bool) (is : digit ≡ ltb (value_of (get_or text i 0)) 10) where
    pub chain_bad : not digit ≡ true → wrong ≡ until e limit v k (drop i text)
    chain_bad = dec_bad text e limit v k i (until e limit v k (drop i text)) refl l n digit is

    module _ (t : not digit ≡ false) where
      pub chain_big : limit < v * 10 + (get_or text i 0 - 48) → wrong ≡ until e limit v k (drop i text)
      chain_big = dec_big text e limit v k i (until e limit v k (drop i text)) refl l n digit is t

      -- what reading on gives
      pub chain_on : (s : Read ℕ) → s ≡ until e limit (v * 10 + (get_or text i 0 - 48)) (k + 1) (drop (i + 1) text) → v * 10 + (get_or text i 0 - 48) ≤ limit → s ≡ until e limit v k (drop i text)
      chain_on s p m = p ∙ sym (dec_more text e limit v k i (until e limit v k (drop i text)) refl l n digit is t m (k + 1) refl)

-- the fourth digit is the last
module _ (text : List ℕ) (e limit v i : ℕ) (room : i + 2 ≤ length text) (low : 100 ≤ v) (top : v < 1000) (most : limit < 10000)
    (n : get_or text i 0 ≡ e → ⊥) (digit : Bool) (is : digit ≡ ltb (value_of (get_or text i 0)) 10) (t : not digit ≡ false) (fits : v * 10 + (get_or text i 0 - 48) ≤ limit) where
  abbrev w : ℕ
  w = v * 10 + (get_or text i 0 - 48)

  on : (s : Read ℕ) → s ≡ until e limit w 4 (drop (i + 1) text) → s ≡ until e limit v 3 (drop i text)
  on s p = chain_on text e limit v 3 i (omega arith) n digit is t s p fits

  pub fourth_ajar : (get_or text (i + 1) 0 ≡ e → ⊥) → wrong ≡ until e limit v 3 (drop i text)
  fourth_ajar a = on wrong (dec_full e limit text (i + 1) (omega arith) a w (omega arith) most)

  pub fourth_end : get_or text (i + 1) 0 ≡ e → got w (drop (i + 2) text) ≡ until e limit v 3 (drop i text)
  fourth_end d =
      let z : i + 2 ≡ i + 1 + 1 = omega arith in
      on (got w (drop (i + 2) text))
      (ap (λ (n : ℕ). got w (drop n text)) z
      ∙ chain_end text e limit w 4 (i + 1) (omega arith) d (size_four w (omega arith) (omega arith)))

-- the first digit
module _ (text : List ℕ) (e limit at : ℕ) (room : at < length text) (apart : e < 48) (digit : Bool) (is : digit ≡ ltb (value_of (get_or text at 0)) 10) where
  pub first_bad : not digit ≡ true → wrong ≡ read_decimal e limit (drop at text)
  unfolding read_decimal
  first_bad t = go (eqb (get_or text at 0) e) refl
    where
      go : (b : Bool) → eqb (get_or text at 0) e ≡ b → wrong ≡ until e limit 0 0 (drop at text)
      go true d = dec_zeros text e limit 0 0 at (until e limit 0 0 (drop at text)) refl room (eqb-true _ _ d) (λ z. omega (arith, z, size_pos 0))
      go false d = chain_bad text e limit 0 0 at room (eqb-false _ _ d) digit is t

  pub first_more : (s : Read ℕ) → s ≡ until e limit (get_or text at 0 - 48) 1 (drop (at + 1) text) → not digit ≡ false → 999 ≤ limit → s ≡ read_decimal e limit (drop at text)
  unfolding read_decimal
  first_more s q t m =
      let f = digit_from (get_or text at 0) digit is t in
      let z : get_or text at 0 - 48 ≡ 0 * 10 + (get_or text at 0 - 48) = omega arith in
      chain_on text e limit 0 0 at room (λ z. omega (arith, f.0)) digit is t s
      (q ∙ ap (λ (n : ℕ). until e limit n 1 (drop (at + 1) text)) z) (omega (arith, f.1))
