-- A number's digits, counted and put from the last on.
use mathlib.Core.Path.{◌≡◌, refl, sym, ap, ◌∙◌}
use mathlib.Core.List.{List, [], ◌∷◌, ◌++◌, append_assoc}
use mathlib.Core.Logic.{◌⊎◌, inl, inr}
use Prim.Native.Nat.{ℕ, zero, suc, ◌+◌, ◌-◌, ◌*◌, ◌/◌, ◌%◌, ◌^◌, ◌<◌, ◌≤◌}
use native.Mathlib.Nat.{pow-succ', one-le-pow, mod-lt, div-div-eq-div-mul}
use native.Mathlib.Omega.{arith}
use lib.ListN.{length, take, drop, get_or, set, length-set, length-append}
use lib.Seq.{take-set-le, drop-set-lt, drop-cons, get_or-set_same}
use mir.Val.{Fits}
use mir.Syntax.{w16, w64}
use borrow.Author.Tests.{lt-ltb, le-ltb}
use Rattle.surface_rules.specs.Buffers.{laid}
use Rattle.surface_rules.proofs.Laws.Laid.{laid_none}
use Rattle.text_digits.specs.Numeral.{byte_of, size, size_in, places, decimal}
use Rattle.text_digits.proofs.Laws.Digit.{lt_or_ge, byte_ten, size_one}
use Rattle.text_digits.proofs.Laws.Sizes.{size_below}
use Rattle.text_digits.proofs.Laws.Exactly.{length_places, ended_length}
use Rattle.text_digits.proofs.Laws.Lay.{lay_byte}
use Rattle.program_lines.specs.Lines.{PutAt}
use Rattle.text_figures.proofs.Laws.Parts.{part_div, part_mod}

-- more steps than are needed change nothing
size_in_same : (f g n : ℕ) → n ≤ f → n ≤ g → size_in f n ≡ size_in g n
unfolding size_in
size_in_same zero zero n h l = refl
size_in_same zero (suc g) n h l = sym (rw (lt-ltb n 10 (omega arith)))
size_in_same (suc f) zero n h l = rw (lt-ltb n 10 (omega arith))
size_in_same (suc f) (suc g) n h l = go (lt_or_ge n 10) (λ (m : 10 ≤ n). size_in_same f g (n / 10) (omega arith) (omega arith))
  where
    go : (n < 10) ⊎ (10 ≤ n) → (10 ≤ n → size_in f (n / 10) ≡ size_in g (n / 10)) → size_in (suc f) n ≡ size_in (suc g) n
    go (inl m) r = rw (lt-ltb n 10 m)
    go (inr m) r = rw (le-ltb n 10 m) (ap suc (r m))

-- the last digit taken off
size_from : (n m : ℕ) → n ≡ m → 10 ≤ n → size_in m n ≡ suc (size (n / 10))
unfolding size_in
size_from n zero e h = absurd (omega arith)
size_from n (suc f) e h = rw (le-ltb n 10 h) (ap suc (size_in_same f (n / 10) (n / 10) (omega arith) (omega arith)))

pub size_step : (n : ℕ) → 10 ≤ n → size n ≡ suc (size (n / 10))
size_step n h = size_from n n refl h

-- counting: the digits counted and those left are all, and one is counted ahead
pub sized_more : (n v s : ℕ) → 10 ≤ v → s + size v ≡ size n + 1 → s + 1 + size (v / 10) ≡ size n + 1
sized_more n v s h e = omega (arith, size_step v h)

pub sized_end : (n v s : ℕ) → v < 10 → s + size v ≡ size n + 1 → s ≡ size n
sized_end n v s h e = omega (arith, size_one v h)

-- how many digits a number of the machine has at most
pub size_word : (n : ℕ) → Fits w64 n → size n ≤ 20
size_word n h = size_below 19 n (omega arith)

pub size_short : (n : ℕ) → Fits w16 n → size n ≤ 5
size_short n h = size_below 4 n (omega arith)

-- a number of two bytes is one of eight
pub widened : (l : List ℕ) (i : ℕ) → ((k : ℕ) → Fits w16 (get_or l k 0)) → Fits w64 (get_or l i 0)
widened l i h = omega (arith, h i)

-- the digits are all but the last, and the last
places_last : (k n : ℕ) → n < 10 ^ suc k → places 10 (suc k) n ≡ places 10 k (n / 10) ++ (byte_of (n % 10) ∷ [])
unfolding places
places_last zero n h =
    let e : n / 1 ≡ n % 10 = omega arith in
    ap (λ (d : ℕ). byte_of d ∷ []) e
places_last (suc k) n h =
    let q : 0 < 10 ^ k = one-le-pow k 10 (omega arith) in
    let e : 10 ^ suc k ≡ 10 ^ k * 10 = omega (arith, pow-succ' 10 k) in
    let d : n / 10 / 10 ^ k ≡ n / 10 ^ suc k = div-div-eq-div-mul n 10 (10 ^ k) ∙ ap (λ (m : ℕ). n / m) (sym (pow-succ' 10 k)) in
    let u : n % 10 ^ suc k / 10 ≡ n / 10 % 10 ^ k = ap (λ (m : ℕ). n % m / 10) e ∙ part_div (10 ^ k) n 10 q (omega arith) in
    let v : n % 10 ^ suc k % 10 ≡ n % 10 = ap (λ (m : ℕ). n % m % 10) e ∙ part_mod (10 ^ k) n 10 q (omega arith) in
    ap (λ (l : List ℕ). byte_of (n / 10 ^ suc k) ∷ l) (places_last k (n % 10 ^ suc k) (mod-lt n (one-le-pow (suc k) 10 (omega arith))))
    ∙ rw (u, v, d)

pub length_decimal : (n : ℕ) → length (decimal n) ≡ size n
length_decimal n = length_places 10 (size n) n

-- laid with its last byte first
laid_last : (at e : ℕ) (a w : List ℕ) → at + length a < length w → laid at (a ++ (e ∷ [])) w ≡ laid at a (set w (at + length a) e)
unfolding laid
laid_last at e a w h =
    let m : length (a ++ (e ∷ [])) ≡ length a + 1 = length-append a (e ∷ []) in
    let z : at + length (a ++ (e ∷ [])) ≡ suc (at + length a) = omega arith in
    let t : take at (set w (at + length a) e) ≡ take at w = take-set-le at w (at + length a) e (omega arith) in
    let d : drop (at + length a) (set w (at + length a) e) ≡ e ∷ drop (suc (at + length a)) w =
    drop-cons (set w (at + length a) e) (at + length a) 0 (rw length-set h)
    ∙ rw (get_or-set_same w (at + length a) e 0 h, drop-set-lt (suc (at + length a)) w (at + length a) e (omega arith)) in
    rw (z, t, d, append_assoc)

-- putting a number's last digit and then those before it
pub digits_small : (k v : ℕ) → 0 < k → v < 10 ^ k → v / 10 < 10 ^ (k - 1)
digits_small zero v p h = absurd (omega arith)
digits_small (suc k) v p h =
    let e : 10 ^ suc k ≡ 10 * 10 ^ k = pow-succ' 10 k in
    let z : suc k - 1 ≡ k = omega arith in
    rw z (omega arith)

pub digits_more : (at k v : ℕ) (text whole : List ℕ) → 0 < k → v < 10 ^ k → at + k ≤ length text → whole ≡ laid at (places 10 k v) text
    → whole ≡ laid at (places 10 (k - 1) (v / 10)) (set text (at + (k - 1)) (48 + v % 10))
digits_more at zero v text whole p h l q = absurd (omega arith)
digits_more at (suc k) v text whole p h l q =
    let z : suc k - 1 ≡ k = omega arith in
    let b : byte_of (v % 10) ≡ 48 + v % 10 = byte_ten (v % 10) (mod-lt v (omega arith)) in
    let n : length (places 10 k (v / 10)) ≡ k = length_places 10 k (v / 10) in
    rw z
    (q ∙ ap (λ (r : List ℕ). laid at r text) (places_last k v h)
    ∙ laid_last at (byte_of (v % 10)) (places 10 k (v / 10)) text (omega arith)
    ∙ rw (n, b))

pub digits_end : (at k v : ℕ) (text whole : List ℕ) → k ≤ 0 → whole ≡ laid at (places 10 k v) text → text ≡ whole
unfolding places
digits_end at zero v text whole h q = sym (q ∙ laid_none at text)
digits_end at (suc k) v text whole h q = absurd (omega arith)

-- a number and the byte that ends it
pub ended_put : (at n k e : ℕ) (text middle : List ℕ) → at + size n + 1 ≤ length text → k ≡ size n → middle ≡ laid at (places 10 k n) text
    → PutAt at (decimal n ++ (e ∷ [])) text (at + k + 1) (set middle (at + k) e)
ended_put at n k e text middle h z q =
    let m : middle ≡ laid at (decimal n) text = q ∙ ap (λ (j : ℕ). laid at (places 10 j n) text) z in
    record {
      put = lay_byte at (at + k) e (decimal n) text middle (omega (arith, length_decimal n)) (omega (arith, length_decimal n)) m;
      behind = omega (arith, ended_length n e);
    }
