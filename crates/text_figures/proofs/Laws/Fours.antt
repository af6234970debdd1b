-- The decimal digits of a number below 10,000: those that it has in its own size are the last of its four.
use mathlib.Core.Path.{◌≡◌, refl, sym, ap, ◌∙◌}
use mathlib.Core.List.{List, [], ◌∷◌, ◌++◌}
use Prim.Native.Nat.{ℕ, ◌+◌, ◌*◌, ◌/◌, ◌%◌, ◌<◌, ◌≤◌}
use native.Mathlib.Omega.{arith}
use lib.ListN.{length, set}
use Rattle.surface_rules.specs.Buffers.{laid}
use Rattle.text_digits.specs.Numeral.{size, byte_of, places, decimal}
use Rattle.text_digits.proofs.Laws.Digit.{byte_small, byte_ten, size_one}
use Rattle.text_digits.proofs.Laws.Sizes.{size_two, size_three, size_four}
use Rattle.text_digits.proofs.Laws.Lay.{lay_byte}
use Rattle.text_figures.specs.Workings.Tables.{four, four_of}
use Rattle.text_figures.proofs.Laws.Spelling.{lay_pair}

cons : (x y : ℕ) (k l : List ℕ) → x ≡ y → k ≡ l → byte_of x ∷ k ≡ byte_of y ∷ l
cons x y k l e f = ap (λ (n : ℕ). byte_of n ∷ k) e ∙ ap (λ (r : List ℕ). byte_of y ∷ r) f

module _ (n : ℕ) where
  one_is : places 10 1 n ≡ byte_of n ∷ []
  unfolding places
  one_is = cons (n / 1) n [] [] (omega arith) refl

  two_is : places 10 2 n ≡ byte_of (n / 10) ∷ places 10 1 (n % 10)
  unfolding places
  two_is = refl

  three_is : places 10 3 n ≡ byte_of (n / 100) ∷ places 10 2 (n % 100)
  unfolding places
  three_is = refl

  four_is : places 10 4 n ≡ byte_of (n / 1000) ∷ places 10 3 (n % 1000)
  unfolding places
  four_is = refl

-- a number in its own digits
dec_one : (n : ℕ) → n < 10 → decimal n ≡ byte_of (n % 10) ∷ []
dec_one n h =
    let z : n ≡ n % 10 = omega arith in
    ap (λ (k : ℕ). places 10 k n) (size_one n h) ∙ one_is n ∙ ap (λ (x : ℕ). byte_of x ∷ []) z

dec_two : (n : ℕ) → 10 ≤ n → n < 100 → decimal n ≡ byte_of (n / 10 % 10) ∷ byte_of (n % 10) ∷ []
dec_two n h l =
    let z : n / 10 ≡ n / 10 % 10 = omega arith in
    ap (λ (k : ℕ). places 10 k n) (sym (size_two n h l)) ∙ two_is n ∙ cons (n / 10) (n / 10 % 10) (places 10 1 (n % 10)) (byte_of (n % 10) ∷ []) z (one_is (n % 10))

dec_three : (n : ℕ) → 100 ≤ n → n < 1000 → decimal n ≡ byte_of (n / 100 % 10) ∷ byte_of (n / 10 % 10) ∷ byte_of (n % 10) ∷ []
dec_three n h l =
    let z : n / 100 ≡ n / 100 % 10 = omega arith in
    let y : n % 100 / 10 ≡ n / 10 % 10 = omega arith in
    let x : n % 100 % 10 ≡ n % 10 = omega arith in
    ap (λ (k : ℕ). places 10 k n) (sym (size_three n h l)) ∙ three_is n
    ∙ cons (n / 100) (n / 100 % 10) (places 10 2 (n % 100)) (byte_of (n / 10 % 10) ∷ byte_of (n % 10) ∷ []) z
    (two_is (n % 100) ∙ cons (n % 100 / 10) (n / 10 % 10) (places 10 1 (n % 100 % 10)) (byte_of (n % 10) ∷ []) y (one_is (n % 100 % 10) ∙ ap (λ (k : ℕ). byte_of k ∷ []) x))

dec_four : (n : ℕ) → 1000 ≤ n → n < 10000 → decimal n ≡ byte_of (n / 1000) ∷ byte_of (n / 100 % 10) ∷ byte_of (n / 10 % 10) ∷ byte_of (n % 10) ∷ []
dec_four n h l =
    let z : n % 1000 / 100 ≡ n / 100 % 10 = omega arith in
    let y : n % 1000 % 100 / 10 ≡ n / 10 % 10 = omega arith in
    let x : n % 1000 % 100 % 10 ≡ n % 10 = omega arith in
    ap (λ (k : ℕ). places 10 k n) (sym (size_four n h l)) ∙ four_is n
    ∙ ap (λ (r : List ℕ). byte_of (n / 1000) ∷ r)
    (three_is (n % 1000)
    ∙ cons (n % 1000 / 100) (n / 100 % 10) (places 10 2 (n % 1000 % 100)) (byte_of (n / 10 % 10) ∷ byte_of (n % 10) ∷ []) z
    (two_is (n % 1000 % 100) ∙ cons (n % 1000 % 100 / 10) (n / 10 % 10) (places 10 1 (n % 1000 % 100 % 10)) (byte_of (n % 10) ∷ []) y (one_is (n % 1000 % 100 % 10) ∙ ap (λ (k : ℕ). byte_of k ∷ []) x)))

-- the four bytes of a number, one by one
module _ (a b c d : ℕ) (p : a < 256) (q : b < 256) (r : c < 256) (s : d < 256) where
  four_first : four a b c d % 256 ≡ a
  unfolding four
  four_first = omega arith

  four_second : four a b c d / 256 % 256 ≡ b
  unfolding four
  four_second = omega arith

  four_third : four a b c d / 65536 % 256 ≡ c
  unfolding four
  four_third = omega arith

  four_last : four a b c d / 16777216 ≡ d
  unfolding four
  four_last = omega arith

digit_byte : (d : ℕ) → d < 10 → byte_of d < 256
digit_byte d h = omega (arith, byte_small d (omega arith))

pub four_made : (n : ℕ) → n < 10000 → 48 + n / 1000 + 256 * (48 + n / 100 % 10) + 65536 * (48 + n / 10 % 10 + 256 * (48 + n % 10)) ≡ four_of n
unfolding four_of four
four_made n h = rw (byte_ten (n / 1000) (omega arith), byte_ten (n / 100 % 10) (omega arith), byte_ten (n / 10 % 10) (omega arith), byte_ten (n % 10) (omega arith))

-- four bytes of a number, the lowest first
abbrev pub fourth : ℕ → List ℕ
fourth f = f % 256 ∷ f / 256 % 256 ∷ f / 65536 % 256 ∷ f / 16777216 ∷ []

module _ (n f : ℕ) (small : n < 10000) (is : f ≡ four_of n) where
  pub f_first : f % 256 ≡ byte_of (n / 1000)
  unfolding four_of
  f_first = rw is (four_first _ _ _ _ (digit_byte (n / 1000) (omega arith)) (digit_byte (n / 100 % 10) (omega arith)) (digit_byte (n / 10 % 10) (omega arith)) (digit_byte (n % 10) (omega arith)))

  pub f_second : f / 256 % 256 ≡ byte_of (n / 100 % 10)
  unfolding four_of
  f_second = rw is (four_second _ _ _ _ (digit_byte (n / 1000) (omega arith)) (digit_byte (n / 100 % 10) (omega arith)) (digit_byte (n / 10 % 10) (omega arith)) (digit_byte (n % 10) (omega arith)))

  pub f_third : f / 65536 % 256 ≡ byte_of (n / 10 % 10)
  unfolding four_of
  f_third = rw is (four_third _ _ _ _ (digit_byte (n / 1000) (omega arith)) (digit_byte (n / 100 % 10) (omega arith)) (digit_byte (n / 10 % 10) (omega arith)) (digit_byte (n % 10) (omega arith)))

  pub f_last : f / 16777216 ≡ byte_of (n % 10)
  unfolding four_of
  f_last = rw is (four_last _ _ _ _ (digit_byte (n / 1000) (omega arith)) (digit_byte (n / 100 % 10) (omega arith)) (digit_byte (n / 10 % 10) (omega arith)) (digit_byte (n % 10) (omega arith)))

  f_most : f < 4294967296
  f_most = omega (arith, f_last, digit_byte (n % 10) (omega arith))

-- a number that has so many digits, and the byte that ends it
module _ (n f at e : ℕ) (text : List ℕ) (is : f ≡ four_of n) (byte : e < 256) (room : at + size n + 1 ≤ length text) where
  ended : {a b : List ℕ} → a ≡ b → laid at (a ++ (e ∷ [])) text ≡ laid at (b ++ (e ∷ [])) text
  ended = ap (λ (r : List ℕ). laid at (r ++ (e ∷ [])) text)

  pub put_one : n < 10 → set (set text at (f / 16777216)) (at + 1) e ≡ laid at (decimal n ++ (e ∷ [])) text
  put_one h = rw (f_last n f (omega arith) is) (lay_pair at (byte_of (n % 10)) e text (omega (arith, size_one n h)) ∙ ended (sym (dec_one n h)))

  pub put_two : 10 ≤ n → n < 100 → set (set (set text at (f / 65536 % 256)) (at + 1) (f / 16777216)) (at + 2) e ≡ laid at (decimal n ++ (e ∷ [])) text
  put_two h m =
      let l : at + 3 ≤ length text = omega (arith, size_two n h m) in
      rw (f_third n f (omega arith) is, f_last n f (omega arith) is)
      (lay_byte at (at + 2) e (byte_of (n / 10 % 10) ∷ byte_of (n % 10) ∷ []) text (set (set text at (byte_of (n / 10 % 10))) (at + 1) (byte_of (n % 10))) (omega arith) refl (lay_pair at (byte_of (n / 10 % 10)) (byte_of (n % 10)) text (omega arith))
      ∙ ended (sym (dec_two n h m)))

  pub put_three : (after : List ℕ) → 100 ≤ n → n < 1000 → after ≡ laid at (fourth (f / 256 + 16777216 * e)) text → after ≡ laid at (decimal n ++ (e ∷ [])) text
  put_three after h m k =
      let s : n < 10000 = omega arith in
      let z : f < 4294967296 = f_most n f s is in
      let i : (f / 256 + 16777216 * e) % 256 ≡ byte_of (n / 100 % 10) = omega (arith, f_second n f s is) in
      let j : (f / 256 + 16777216 * e) / 256 % 256 ≡ byte_of (n / 10 % 10) = omega (arith, f_third n f s is) in
      let p : (f / 256 + 16777216 * e) / 65536 % 256 ≡ byte_of (n % 10) = omega (arith, f_last n f s is) in
      let q : (f / 256 + 16777216 * e) / 16777216 ≡ e = omega arith in
      k ∙ rw (i, j, p, q) (ended (sym (dec_three n h m)))

  pub put_four_ended : (middle : List ℕ) → 1000 ≤ n → n < 10000 → middle ≡ laid at (fourth f) text → set middle (at + 4) e ≡ laid at (decimal n ++ (e ∷ [])) text
  put_four_ended middle h s k =
      lay_byte at (at + 4) e (fourth f) text middle (omega (arith, size_four n h s)) refl k
      ∙ rw (f_first n f s is, f_second n f s is, f_third n f s is, f_last n f s is) (ended (sym (dec_four n h s)))
