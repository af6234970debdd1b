-- Sums, differences and products of whole numbers are exact up to 2^53, and so is the cast from an integer.
use mathlib.Core.Path.{◌≡◌, refl, sym, ap, ◌∙◌, subst}
use mathlib.Core.Bool.{Bool, true, false, not, cond}
use Prim.Native.Nat.{ℕ, zero, suc, ◌+◌, ◌-◌, ◌*◌, ◌^◌, ◌≤◌}
use native.Mathlib.Nat.{le_trans, le_of_eq, zero-lt-suc, zero-mul, mul-zero, mul-one, mul_assoc, mul_left_comm, mul-pos}
use lib.Dec.{T, ltb, ltb→lt, nltb→le, le→leb, lt→ltb}
use native.Mathlib.Omega.{arith}
use lib.IntN.{ℤ, pos, negsuc, neg_ℤ, nat_abs, ◌+ℤ◌, ◌-ℤ◌, ◌*ℤ◌, neg_ℤ-+ℤ, neg_ℤ-neg_ℤ, zero-*ℤ, *ℤ-zero}
use lib.Ieee.{Float, nan, inf, fin, binary64, up, down, unlike, round, sum, add, sub, mul, of_int, in_float}
use lib.Ieee.Fits.{round-fits, add-fits, down_pos}
use lib.Ieee.Exact.{HasValue}
use lib.Ieee.Back.{round_whole}
use lib.Ieee.Scale.{round_same}
use Rattle.grid_coordinate.specs.Units.{signed}
use Rattle.grid_coordinate.proofs.Laws.Signs.{abs_signed, signed_under, signed_over}
use Rattle.grid_coordinate.proofs.Laws.Floats.{add_is, sub_is}
use Rattle.grid_floats.specs.Workings.Whole.{Whole, Natural}

-- ---- what a rounding gives

-- a size up to 2^53 is rounded to itself
rounded : (s : Bool) (n : ℕ) (z : ℤ) → signed s n ≡ z → nat_abs z ≤ 2 ^ 53 → Whole (round binary64 s n 1) z
rounded s n z e h =
    let size : n ≡ nat_abs z = sym (abs_signed s n) ∙ ap nat_abs e in record {
      held = round-fits binary64 s n 1;
      minus = s;
      value = subst (λ (k : ℕ). HasValue (round binary64 s n 1) s k 1) size (round_whole binary64 s n (le_trans (le_of_eq size) h));
      sign = ap (signed s) (sym size) ∙ e;
    }

pub whole_of_int : (z : ℤ) → nat_abs z ≤ 2 ^ 53 → Whole (of_int binary64 z) z
unfolding of_int
whole_of_int (pos n) h = rounded false n (pos n) refl h
whole_of_int (negsuc n) h = rounded true (suc n) (negsuc n) refl h

pub in_float_lem : (z : ℤ) → nat_abs z ≤ 2 ^ 53 → T (in_float binary64 z)
unfolding in_float
in_float_lem (pos n) h = le→leb n (2 ^ 53) h
in_float_lem (negsuc n) h = lt→ltb n (2 ^ 53) h

-- ---- sums

other_sign : (s : Bool) (n : ℕ) → neg_ℤ (signed s n) ≡ signed (not s) n
other_sign false n = refl
other_sign true n = neg_ℤ-neg_ℤ (pos n)

-- a float that a test chooses
chosen : (z : ℤ) (b : Bool) (x y : Float) → (T b → Whole x z) → (T (not b) → Whole y z) → Whole (cond b x y) z
chosen z true x y f g = f tt
chosen z false x y f g = g tt

-- 0 has either sign
no_sign : (r : Bool) (A B : ℕ) → (T (not r) → A ≤ B) → B ≤ A → signed r (A - B) ≡ signed true (A - B)
no_sign true A B f h = refl
no_sign false A B f h = let z : A - B ≡ 0 = omega (arith, f tt) in ap (signed false) z ∙ sym (ap (signed true) z)

sum_like : (s : Bool) (A B : ℕ) → signed s (A + B) ≡ signed s A +ℤ signed s B
sum_like false A B = refl
sum_like true A B = neg_ℤ-+ℤ (pos A) (pos B)

sum_whole : (s t : Bool) (A B : ℕ) (z : ℤ) → signed s A +ℤ signed t B ≡ z → nat_abs z ≤ 2 ^ 53 → Whole (sum binary64 s A t B 1) z
unfolding sum
sum_whole false false A B z e h = rounded false (A + B) z (sum_like false A B ∙ e) h
sum_whole true true A B z e h = rounded true (A + B) z (sum_like true A B ∙ e) h
sum_whole false true A B z e h =
    chosen z (ltb A B) (round binary64 true (B - A) 1) (round binary64 false (A - B) 1)
    (λ t. rounded true (B - A) z (sym (signed_under false A B (ltb→lt A B t)) ∙ e) h)
    (λ t. rounded false (A - B) z (sym (signed_over false A B (nltb→le A B t)) ∙ e) h)
sum_whole true false A B z e h =
    let back : signed true A -ℤ signed true B ≡ z = ap (λ (y : ℤ). signed true A +ℤ y) (other_sign true B) ∙ e in
    chosen z (ltb A B) (round binary64 false (B - A) 1) (round binary64 (ltb B A) (A - B) 1)
    (λ t. rounded false (B - A) z (sym (signed_under true A B (ltb→lt A B t)) ∙ back) h)
    (λ t. rounded (ltb B A) (A - B) z (no_sign (ltb B A) A B (nltb→le B A) (nltb→le A B t) ∙ sym (signed_over true A B (nltb→le A B t)) ∙ back) h)

pub whole_add : (x y : Float) (a b : ℤ) → Whole x a → Whole y b → nat_abs (a +ℤ b) ≤ 2 ^ 53 → Whole (add binary64 x y) (a +ℤ b)
whole_add x y a b p q h =
    subst (λ (r : Float). Whole r (a +ℤ b)) (sym (add_is binary64 x y p.minus q.minus (nat_abs a) (nat_abs b) 1 (zero-lt-suc 0) p.value q.value))
    (sum_whole p.minus q.minus (nat_abs a) (nat_abs b) (a +ℤ b) (ap (λ (u : ℤ). u +ℤ signed q.minus (nat_abs b)) p.sign ∙ ap (λ (u : ℤ). a +ℤ u) q.sign) h)

pub whole_sub : (x y : Float) (a b : ℤ) → Whole x a → Whole y b → nat_abs (a -ℤ b) ≤ 2 ^ 53 → Whole (sub binary64 x y) (a -ℤ b)
whole_sub x y a b p q h =
    subst (λ (r : Float). Whole r (a -ℤ b)) (sym (sub_is binary64 x y p.minus q.minus (nat_abs a) (nat_abs b) 1 (zero-lt-suc 0) p.value q.value))
    (sum_whole p.minus (not q.minus) (nat_abs a) (nat_abs b) (a -ℤ b)
    (ap (λ (u : ℤ). u +ℤ signed (not q.minus) (nat_abs b)) p.sign ∙ ap (λ (u : ℤ). a +ℤ u) (sym (other_sign q.minus (nat_abs b)) ∙ ap neg_ℤ q.sign)) h)

pub natural_add : (x y : Float) (m n : ℕ) → Natural x m → Natural y n → m + n ≤ 2 ^ 53 → Natural (add binary64 x y) (m + n)
unfolding sum
natural_add x y m n p q h = record {
  held = add-fits binary64 x y;
  value = subst (λ (r : Float). HasValue r false (m + n) 1) (sym (add_is binary64 x y false false m n 1 (zero-lt-suc 0) p.value q.value)) (round_whole binary64 false (m + n) h);
}

-- ---- products

-- a product depends on the values alone
pub mul_is : (x y : Float) (s t : Bool) (A B : ℕ) → HasValue x s A 1 → HasValue y t B 1 → mul binary64 x y ≡ round binary64 (unlike s t) (A * B) 1
unfolding mul
mul_is nan y s t A B v w = absurd v
mul_is (inf b) y s t A B v w = absurd v
mul_is (fin b m e) nan s t A B v w = absurd w
mul_is (fin b m e) (inf d) s t A B v w = absurd w
mul_is (fin b m e) (fin d n g) s t A B v w =
    round_same binary64 (unlike b d) (m * up e * (n * up g)) (down e * down g) (A * B) 1 (mul-pos (down_pos e) (down_pos g)) (zero-lt-suc 0)
    (mul-one (m * up e * (n * up g)) ∙ ap (λ (k : ℕ). k * (n * up g)) (sym (mul-one (m * up e)) ∙ v.1) ∙ ap (λ (k : ℕ). A * down e * k) (sym (mul-one (n * up g)) ∙ w.1) ∙ apart A (down e) B (down g))
    ∙ ap (λ (r : Bool). round binary64 (unlike r d) (A * B) 1) v.0
    ∙ ap (λ (r : Bool). round binary64 (unlike s r) (A * B) 1) w.0
  where
    apart : (a b c d : ℕ) → a * b * (c * d) ≡ a * c * (b * d)
    apart a b c d = simp (mul_assoc, mul_left_comm)

product_sign : (s t : Bool) (A B : ℕ) → signed (unlike s t) (A * B) ≡ signed s A *ℤ signed t B
product_sign false false A B = refl
product_sign false true A zero = ap (λ (k : ℕ). neg_ℤ (pos k)) (mul-zero A) ∙ sym (ap pos (mul-zero A))
product_sign false true A (suc b) = refl
product_sign true false zero B = ap (λ (k : ℕ). neg_ℤ (pos k)) (zero-mul B) ∙ sym (ap pos (zero-mul B))
product_sign true false (suc a) B = refl
product_sign true true zero zero = refl
product_sign true true zero (suc b) = ap pos (zero-mul (suc b)) ∙ sym (zero-*ℤ (negsuc b))
product_sign true true (suc a) zero = ap pos (mul-zero (suc a)) ∙ sym (*ℤ-zero (negsuc a))
product_sign true true (suc a) (suc b) = refl

pub whole_mul : (x y : Float) (a b : ℤ) → Whole x a → Whole y b → nat_abs (a *ℤ b) ≤ 2 ^ 53 → Whole (mul binary64 x y) (a *ℤ b)
whole_mul x y a b p q h =
    subst (λ (r : Float). Whole r (a *ℤ b)) (sym (mul_is x y p.minus q.minus (nat_abs a) (nat_abs b) p.value q.value))
    (rounded (unlike p.minus q.minus) (nat_abs a * nat_abs b) (a *ℤ b)
    (product_sign p.minus q.minus (nat_abs a) (nat_abs b) ∙ ap (λ (u : ℤ). u *ℤ signed q.minus (nat_abs b)) p.sign ∙ ap (λ (u : ℤ). a *ℤ u) q.sign) h)
