-- Floats as whole numbers of units, with no word of grids: what a word's units are, that a sum or a difference depends on the
-- values alone, where a difference is exact, where a sum rounds to a whole number, and when two floats are equal.
use mathlib.Core.Path.{◌≡◌, refl, sym, ap, ◌∙◌, subst}
use Prim.Native.Nat.{ℕ, zero, suc, ◌+◌, ◌-◌, ◌*◌, ◌/◌, ◌%◌, ◌^◌, ◌≤◌, ◌<◌, compare}
use native.Mathlib.Nat.{le_trans, le_of_eq, le_of_lt, lt_of_lt_of_le, lt_of_le_of_lt, lt_of_not-le, not-le_of_lt, mod-lt, add_comm, le-add_right}
use native.Mathlib.Nat.{zero-mul, mul-one, mul_comm, mul_assoc, mul_right_comm, mul-pos, add-mul, mul-div_cancel, mul-lt-mul_of_pos_right, lt_of_mul-lt-mul_right, div-lt_iff_lt-mul, mul-le-mul_right, eq_of_mul-eq-mul_right}
use native.Mathlib.Omega.{arith}
use mathlib.Core.Bool.{Bool, true, false, not, ◌&&◌, ◌||◌, cond, beq}
use lib.Arith.{lt_of_le-ne}
use lib.Dec.{T, ltb, leb, eqb, ltb→lt, lt→ltb, le→leb, nltb→le, eqb→eq, not_T, lit<}
use lib.Pow.{pow-add, pow_pos, pow_mono, pow-lt, shl_lt}
use lib.IntN.{ℤ, pos, neg_ℤ, nat_abs, ◌-ℤ◌, pos-ne-negsuc}
use lib.Ieee.{Float, nan, inf, fin, Format, binary32, binary64, prec, emax, low, up, down, size, round, sum, add, neg, sub, of_int, eq, level, in_float, of_bits, of_fields, odd, nan_bits}
use lib.Ieee.Digits.{size-le, size-lt}
use borrow.Author.Tests.{lt-ltb}
use lib.Ieee.Nearest.{closest, closest_same}
use lib.Ieee.Fits.{two, down_pos, round-fits, of_int-fits, and_i, and_l, and_r, eq→eqb, nearest-le}
use lib.Ieee.Exact.{HasValue, round_exact, odd_sign}
use lib.Ieee.Scale.{finite, round_same, round_val, grid}
use lib.Ieee.Back.{round_whole, whole_unique}
use Rattle.grid_coordinate.specs.Units.{one, signed, units}
use Rattle.grid_coordinate.proofs.Laws.Nearest.{apart, sub_mul, closest_up, closest_down}
use Rattle.grid_coordinate.proofs.Laws.Signs.{abs_signed, signed_under, signed_over}

-- ---- a value in units

pub record Is (x : Float) (z : ℤ) : Type 0 where
  pub number : T (finite x)
  pub counts : units x ≡ z

pub is_units : (x : Float) (s : Bool) (a : ℕ) → HasValue x s a one → Is x (signed s a)
unfolding units
is_units nan s a v = absurd v
is_units (inf t) s a v = absurd v
is_units (fin t m e) s a v = record {
  number = tt;
  counts = ap (λ (b : Bool). signed b (m * up e * one / down e)) v.0 ∙ ap (λ (n : ℕ). signed s (n / down e)) v.1 ∙ ap (signed s) (mul-div_cancel a (down_pos e));
}

-- a whole number's value is that many times the units of one
pub whole_value : (x : Float) (s : Bool) (k u : ℕ) → HasValue x s k 1 → HasValue x s (k * u) u
whole_value nan s k u v = absurd v
whole_value (inf t) s k u v = absurd v
whole_value (fin t m e) s k u v = (v.0, ap (λ (n : ℕ). n * u) (sym (mul-one (m * up e)) ∙ v.1) ∙ mul_right_comm k (down e) u)

value_whole : (x : Float) (s : Bool) (k u : ℕ) → 0 < u → HasValue x s (k * u) u → HasValue x s k 1
value_whole nan s k u U v = absurd v
value_whole (inf t) s k u U v = absurd v
value_whole (fin t m e) s k u U v = (v.0, mul-one (m * up e) ∙ eq_of_mul-eq-mul_right u U (m * up e) (k * down e) (v.1 ∙ mul_right_comm k u (down e)))

-- ---- a sum depends on the values alone

pub same_test : (a b : Bool) → (T a → T b) → (T b → T a) → a ≡ b
same_test true true p q = refl
same_test true false p q = absurd (p tt)
same_test false true p q = absurd (q tt)
same_test false false p q = refl

-- a / c and b / c are A / L and B / L
module _ (a b c A B L : ℕ) (C : 0 < c) (Z : 0 < L) (p : a * L ≡ A * c) (q : b * L ≡ B * c) where
  pub same_less : ltb a b ≡ ltb A B
  same_less =
      same_test (ltb a b) (ltb A B)
      (λ t. lt→ltb A B (lt_of_mul-lt-mul_right c (subst (λ (x : ℕ). x < B * c) p (subst (λ (x : ℕ). a * L < x) q (mul-lt-mul_of_pos_right (ltb→lt a b t) Z)))))
      (λ t. lt→ltb a b (lt_of_mul-lt-mul_right L (subst (λ (x : ℕ). x < b * L) (sym p) (subst (λ (x : ℕ). A * c < x) (sym q) (mul-lt-mul_of_pos_right (ltb→lt A B t) C)))))

  same_equal : eqb a b ≡ eqb A B
  same_equal =
      same_test (eqb a b) (eqb A B)
      (λ t. eq→eqb (eq_of_mul-eq-mul_right c C A B (sym p ∙ ap (λ (x : ℕ). x * L) (eqb→eq a b t) ∙ q)))
      (λ t. eq→eqb (eq_of_mul-eq-mul_right L Z a b (p ∙ ap (λ (x : ℕ). x * c) (eqb→eq A B t) ∙ sym q)))

  same_difference : (a - b) * L ≡ (A - B) * c
  same_difference = sub_mul a b L ∙ ap (λ (x : ℕ). x - b * L) p ∙ ap (λ (x : ℕ). A * c - x) q ∙ sym (sub_mul A B c)

  same_total : (a + b) * L ≡ (A + B) * c
  same_total = add-mul a b L ∙ ap (λ (x : ℕ). x + b * L) p ∙ ap (λ (x : ℕ). A * c + x) q ∙ sym (add-mul A B c)

sum_same : (f : Format) (s : Bool) (a : ℕ) (t : Bool) (b c A B L : ℕ) → 0 < c → 0 < L → a * L ≡ A * c → b * L ≡ B * c → sum f s a t b c ≡ sum f s A t B L
unfolding sum
sum_same f s a t b c A B L C Z p q =
    ap (λ (x : Float). cond (beq s t) x (cond (ltb a b) (round f t (b - a) c) (round f (s && ltb b a) (a - b) c))) (round_same f s (a + b) c (A + B) L C Z (same_total a b c A B L C Z p q))
    ∙ ap (λ (x : Float). cond (beq s t) (round f s (A + B) L) (cond (ltb a b) x (round f (s && ltb b a) (a - b) c))) (round_same f t (b - a) c (B - A) L C Z (same_difference b a c B A L C Z q p))
    ∙ ap (λ (x : Float). cond (beq s t) (round f s (A + B) L) (cond (ltb a b) (round f t (B - A) L) x)) (round_same f (s && ltb b a) (a - b) c (A - B) L C Z (same_difference a b c A B L C Z p q))
    ∙ ap (λ (x : Bool). cond (beq s t) (round f s (A + B) L) (cond x (round f t (B - A) L) (round f (s && ltb b a) (A - B) L))) (same_less a b c A B L C Z p q)
    ∙ ap (λ (x : Bool). cond (beq s t) (round f s (A + B) L) (cond (ltb A B) (round f t (B - A) L) (round f (s && x) (A - B) L))) (same_less b a c B A L C Z q p)

-- two values over one denominator
module _ (b d : Bool) (m n : ℕ) (e g : ℤ) (s t : Bool) (A B L : ℕ) (v : HasValue (fin b m e) s A L) (w : HasValue (fin d n g) t B L) where
  pub cross_left : m * up e * down g * L ≡ A * (down e * down g)
  cross_left = mul_right_comm (m * up e) (down g) L ∙ ap (λ (x : ℕ). x * down g) v.1 ∙ mul_assoc A (down e) (down g)

  pub cross_right : n * up g * down e * L ≡ B * (down e * down g)
  cross_right = mul_right_comm (n * up g) (down e) L ∙ ap (λ (x : ℕ). x * down e) w.1 ∙ mul_assoc B (down g) (down e) ∙ ap (λ (x : ℕ). B * x) (mul_comm (down g) (down e))

pub add_is : (f : Format) (x y : Float) (s t : Bool) (A B L : ℕ) → 0 < L → HasValue x s A L → HasValue y t B L → add f x y ≡ sum f s A t B L
unfolding add
add_is f nan y s t A B L Z v w = absurd v
add_is f (inf b) y s t A B L Z v w = absurd v
add_is f (fin b m e) nan s t A B L Z v w = absurd w
add_is f (fin b m e) (inf d) s t A B L Z v w = absurd w
add_is f (fin b m e) (fin d n g) s t A B L Z v w =
    sum_same f b (m * up e * down g) d (n * up g * down e) (down e * down g) A B L (mul-pos (down_pos e) (down_pos g)) Z
    (cross_left b d m n e g s t A B L v w) (cross_right b d m n e g s t A B L v w)
    ∙ ap (λ (r : Bool). sum f r A d B L) v.0
    ∙ ap (λ (r : Bool). sum f s A r B L) w.0

neg_value : (y : Float) (t : Bool) (B L : ℕ) → HasValue y t B L → HasValue (neg y) (not t) B L
unfolding neg
neg_value nan t B L w = w
neg_value (inf d) t B L w = w
neg_value (fin d n g) t B L w = (ap not w.0, w.1)

pub sub_is : (f : Format) (x y : Float) (s t : Bool) (A B L : ℕ) → 0 < L → HasValue x s A L → HasValue y t B L → sub f x y ≡ sum f s A (not t) B L
unfolding sub
sub_is f x y s t A B L Z v w = add_is f x (neg y) s (not t) A B L Z v (neg_value y t B L w)

-- ---- when two floats are equal

pub eq_is : (x y : Float) (s t : Bool) (A B L : ℕ) → 0 < L → HasValue x s A L → HasValue y t B L → eq x y ≡ level s A t B
unfolding eq
eq_is nan y s t A B L Z v w = absurd v
eq_is (inf b) y s t A B L Z v w = absurd v
eq_is (fin b m e) nan s t A B L Z v w = absurd w
eq_is (fin b m e) (inf d) s t A B L Z v w = absurd w
eq_is (fin b m e) (fin d n g) s t A B L Z v w =
    let C : 0 < down e * down g = mul-pos (down_pos e) (down_pos g) in
    let p = cross_left b d m n e g s t A B L v w in
    let q = cross_right b d m n e g s t A B L v w in
    let z : 0 * L ≡ 0 * (down e * down g) = zero-mul L ∙ sym (zero-mul (down e * down g)) in
    ap (λ (r : Bool). r && (beq b d || eqb (m * up e * down g) 0)) (same_equal (m * up e * down g) (n * up g * down e) (down e * down g) A B L C Z p q)
    ∙ ap (λ (r : Bool). eqb A B && (beq b d || r)) (same_equal (m * up e * down g) 0 (down e * down g) A 0 L C Z p z)
    ∙ ap (λ (r : Bool). eqb A B && (beq r d || eqb A 0)) v.0
    ∙ ap (λ (r : Bool). eqb A B && (beq s r || eqb A 0)) w.0

-- equal floats have equal units, and unequal ones have not: 0 has none of either sign
zero_signs : (s t : Bool) (A B : ℕ) → A ≡ B → A ≡ 0 → signed s A ≡ signed t B
zero_signs s t A B p z = ap (signed s) z ∙ nought s t ∙ sym (ap (signed t) (sym p ∙ z))
  where
    nought : (s t : Bool) → signed s 0 ≡ signed t 0
    nought true true = refl
    nought true false = refl
    nought false true = refl
    nought false false = refl

pub level_same : (s t : Bool) (A B : ℕ) → level s A t B ≡ true → signed s A ≡ signed t B
level_same s t A B e = go s t (eqb→eq A B (and_l (eqb A B) (beq s t || eqb A 0) (subst T (sym e) tt))) (and_r (eqb A B) (beq s t || eqb A 0) (subst T (sym e) tt))
  where
    go : (s t : Bool) → A ≡ B → T (beq s t || eqb A 0) → signed s A ≡ signed t B
    go true true p h = ap (signed true) p
    go false false p h = ap (signed false) p
    go true false p h = zero_signs true false A B p (eqb→eq A 0 h)
    go false true p h = zero_signs false true A B p (eqb→eq A 0 h)

pub level_other : (s t : Bool) (A B : ℕ) → level s A t B ≡ false → signed s A ≡ signed t B → ⊥
level_other s t A B e h = subst T e (and_i (eqb A B) (beq s t || eqb A 0) (eq→eqb size) (go s t h))
  where
    size : A ≡ B
    size = sym (abs_signed s A) ∙ ap nat_abs h ∙ abs_signed t B

    minus_plus : (A B : ℕ) → neg_ℤ (pos A) ≡ pos B → A ≡ 0
    minus_plus zero B h = refl
    minus_plus (suc n) B h = absurd (pos-ne-negsuc B n (sym h))

    go : (s t : Bool) → signed s A ≡ signed t B → T (beq s t || eqb A 0)
    go true true h = tt
    go false false h = tt
    go true false h = eq→eqb (minus_plus A B h)
    go false true h = eq→eqb (size ∙ minus_plus B A (sym h))

-- ---- where a rounding changes nothing

-- a whole number of units that has 24 digits and j zeros is a binary32 number
exact : (s : Bool) (n q j : ℕ) → q < 2 ^ 24 → j ≤ 149 → n ≡ q * 2 ^ j → Is (round binary32 s n one) (signed s n)
exact s n q j small H e =
    is_units (round binary32 s n one) s n
    (round_exact binary32 s n one q j (pow_pos 149) small (lt_of_lt_of_le (shl_lt 24 j small) (pow_mono (room H))) (ap (λ (x : ℕ). x * one) e))
  where
    room : j ≤ 149 → 24 + j ≤ 149 + suc 127
    room h = omega arith

cond_case : {X : Type 0} (P : X → Type 0) (b : Bool) (x y : X) → (T b → P x) → (T (not b) → P y) → P (cond b x y)
cond_case P true x y f g = f tt
cond_case P false x y f g = g tt

to : (x : Float) {a b : ℤ} → a ≡ b → Is x a → Is x b
to x e i = record { number = i.number; counts = i.counts ∙ e }

-- the difference of two sizes with the same sign, where their distance has 24 digits and j zeros
module _ (A B q j : ℕ) (small : q < 2 ^ 24) (H : j ≤ 149) (e : apart A B ≡ q * 2 ^ j) where
  up_part : A < B → B - A ≡ q * 2 ^ j
  up_part h = omega (arith, e)

  down_part : B ≤ A → A - B ≡ q * 2 ^ j
  down_part h = omega (arith, e)

  no_sign : (r : Bool) → (T (not r) → A ≤ B) → B ≤ A → signed r (A - B) ≡ signed true (A - B)
  no_sign true f h = refl
  no_sign false f h = let z : A - B ≡ 0 = omega (arith, f tt) in ap (signed false) z ∙ sym (ap (signed true) z)

  difference_exact : (s : Bool) → Is (sum binary32 s A (not s) B one) (signed s A -ℤ signed s B)
  unfolding sum
  difference_exact false =
      cond_case (λ (x : Float). Is x (signed false A -ℤ signed false B)) (ltb A B) (round binary32 true (B - A) one) (round binary32 false (A - B) one)
      (λ t. to _ (sym (signed_under false A B (ltb→lt A B t))) (exact true (B - A) q j small H (up_part (ltb→lt A B t))))
      (λ t. to _ (sym (signed_over false A B (nltb→le A B t))) (exact false (A - B) q j small H (down_part (nltb→le A B t))))
  difference_exact true =
      cond_case (λ (x : Float). Is x (signed true A -ℤ signed true B)) (ltb A B) (round binary32 false (B - A) one) (round binary32 (ltb B A) (A - B) one)
      (λ t. to _ (sym (signed_under true A B (ltb→lt A B t))) (exact false (B - A) q j small H (up_part (ltb→lt A B t))))
      (λ t.
      to _ (no_sign (ltb B A) (nltb→le B A) (nltb→le A B t) ∙ sym (signed_over true A B (nltb→le A B t)))
      (exact (ltb B A) (A - B) q j small H (down_part (nltb→le A B t))))

-- ---- a whole number as a float

-- how many of a format's smallest values a whole number has
abbrev pub fine : Format → ℕ
fine f = 2 ^ low f

-- the sign that it has as a float: 0 has none
unfoldable pub sign_of : Bool → ℕ → Bool
sign_of s zero = false
sign_of s (suc n) = s

pub of_int_lem : (f : Format) (s : Bool) (n : ℕ) → n ≤ 2 ^ prec f → HasValue (of_int f (signed s n)) (sign_of s n) n 1
unfolding of_int sign_of
of_int_lem f false zero h = round_whole f false 0 h
of_int_lem f false (suc n) h = round_whole f false (suc n) h
of_int_lem f true zero h = round_whole f false 0 h
of_int_lem f true (suc n) h = round_whole f true (suc n) h

pub sign_kept : (s : Bool) (n u : ℕ) → signed (sign_of s n) (n * u) ≡ signed s (n * u)
unfolding sign_of
sign_kept false zero u = refl
sign_kept false (suc n) u = refl
sign_kept true zero u = ap pos (zero-mul u) ∙ sym (ap (λ (x : ℕ). neg_ℤ (pos x)) (zero-mul u))
sign_kept true (suc n) u = refl

pub in_float_lem : (f : Format) (s : Bool) (n : ℕ) → n ≤ 2 ^ prec f → T (in_float f (signed s n))
unfolding in_float
in_float_lem f false n h = le→leb n (2 ^ prec f) h
in_float_lem f true zero h = le→leb 0 (2 ^ prec f) h
in_float_lem f true (suc n) h = lt→ltb n (2 ^ prec f) h

-- A float less a whole number of its own sign is exact, where their distance has 24 digits and j zeros.
pub less_whole : (x : Float) (s : Bool) (A K q j : ℕ) → HasValue x s A one → K ≤ 2 ^ 24 → q < 2 ^ 24 → j ≤ 149 → apart A (K * one) ≡ q * 2 ^ j
    → Is (sub binary32 x (of_int binary32 (signed s K))) (signed s A -ℤ signed s (K * one))
unfolding sign_of sum
less_whole x s A K q j v h small H e =
    let w = whole_value (of_int binary32 (signed s K)) (sign_of s K) K one (of_int_lem binary32 s K h) in
    subst (λ (r : Float). Is r (signed s A -ℤ signed s (K * one))) (sym (sub_is binary32 x (of_int binary32 (signed s K)) s (sign_of s K) A (K * one) one (pow_pos 149) v w)) (go s K e)
  where
    plain : (u n : ℕ) → apart A (0 * u) ≡ n → A + 0 * u ≡ n
    plain u n e = omega (arith, e, zero-mul u)

    nothing : (u : ℕ) → (A + 0 * u ≡ A - 0 * u) × (0 * u ≤ A)
    nothing u = (omega (arith, zero-mul u), omega (arith, zero-mul u))

    go : (s : Bool) (K : ℕ) → apart A (K * one) ≡ q * 2 ^ j → Is (sum binary32 s A (not (sign_of s K)) (K * one) one) (signed s A -ℤ signed s (K * one))
    go false zero e = difference_exact A (0 * one) q j small H e false
    go false (suc k) e = difference_exact A (suc k * one) q j small H e false
    go true zero e =
        to (round binary32 true (A + 0 * one) one) (ap (signed true) (nothing one).0 ∙ sym (signed_over true A (0 * one) (nothing one).1))
        (exact true (A + 0 * one) q j small H (plain one (q * 2 ^ j) e))
    go true (suc k) e = difference_exact A (suc k * one) q j small H e true

-- ---- a sum that rounds to a whole number

-- from q upwards, or downwards where the sign is minus
unfoldable pub off : Bool → ℕ → ℕ → ℕ
off false q a = q + a
off true q a = q - a

-- Where the last digit that a format keeps is that of the ones, a float has no binary places, so there rounding gives the nearest whole
-- number, a tie to the even one: from 2^23 to 2^24 in binary32, and from 2^52 to 2^53 in binary64.
spare : (f : Format) → prec f + low f < low f + suc (emax f)
spare binary32 = lit< tt
spare binary64 = lit< tt

module _ (f : Format) where
  height : (z : ℕ) → z ≤ prec f + low f → (z ≤ prec f - 1 + low f → ⊥) → z - prec f ≡ low f
  height z h n = let g : prec f - 1 + low f < z = lt_of_not-le n in omega (arith, two f)

  module _ (n : ℕ) (lo : 2 ^ (prec f - 1) * fine f ≤ n) (hi : n < 2 ^ prec f * fine f) where
    F : 0 < fine f
    F = pow_pos (low f)

    most : closest n (fine f) ≤ 2 ^ prec f
    most = le_trans (nearest-le (n / fine f) (compare (n % fine f * 2) (fine f))) ((div-lt_iff_lt-mul F).1 hi)

    room : closest n (fine f) * fine f < 2 ^ (low f + suc (emax f))
    room = lt_of_le_of_lt (mul-le-mul_right (fine f) most) (lt_of_le_of_lt (le_of_eq (sym (pow-add 2 (prec f) (low f)))) (pow-lt (spare f)))

    places : size (n * fine f / fine f) - prec f ≡ low f
    places =
        ap (λ (x : ℕ). size x - prec f) (mul-div_cancel n F)
        ∙ height (size n) (size-le n (prec f + low f) (lt_of_lt_of_le hi (le_of_eq (sym (pow-add 2 (prec f) (low f))))))
        (λ h. not-le_of_lt (lt_of_lt_of_le (size-lt n) (le_trans (pow_mono h) (le_of_eq (pow-add 2 (prec f - 1) (low f))))) lo)

    grid_is : grid f n (fine f) ≡ closest n (fine f) * fine f
    grid_is =
        ap (λ (k : ℕ). closest (n * fine f) (fine f * 2 ^ k) * 2 ^ k) places
        ∙ ap (λ (x : ℕ). x * fine f) (closest_same (n * fine f) (fine f * fine f) n (fine f) (mul-pos F F) F (mul_assoc n (fine f) (fine f)))

    round_high : round f false n (fine f) ≡ of_int f (pos (closest n (fine f)))
    unfolding of_int
    round_high =
        whole_unique f (round f false n (fine f)) (round f false (closest n (fine f)) 1) false (closest n (fine f)) (round-fits f false n (fine f)) (of_int-fits f (pos (closest n (fine f))))
        (value_whole (round f false n (fine f)) false (closest n (fine f)) (fine f) F (subst (λ (g : ℕ). HasValue (round f false n (fine f)) false g (fine f)) grid_is (round_val f n (fine f) (subst (λ (g : ℕ). g < 2 ^ (low f + suc (emax f))) (sym grid_is) room))))
        (round_whole f false (closest n (fine f)) most)

-- a is below c, and both c - a and c + a lie from b up to e
record Between (a b c e : ℕ) : Type 0 where
  below : a < c
  from_down : b ≤ c - a
  to_down : c - a < e
  from_up : b ≤ c + a
  to_up : c + a < e

between : (a b c d e : ℕ) → a < d → b + d ≤ c → c + d ≤ e → Between a b c e
between a b c d e h l g = record { below = omega arith; from_down = omega arith; to_down = omega arith; from_up = omega arith; to_up = omega arith }

-- So a number below a quarter of the upper end, added to an even whole number q that lies as far from both ends, rounds to q and the whole
-- number nearest to it.
module _ (f : Format) (q : ℕ) (even : q % 2 ≡ 0) (lo : 2 ^ (prec f - 1) + 2 ^ (prec f - 2) ≤ q) (hi : q + 2 ^ (prec f - 2) ≤ 2 ^ prec f) where
  sum_high : (s : Bool) (A : ℕ) → A < 2 ^ (prec f - 2) * fine f → sum f s A false (q * fine f) (fine f) ≡ of_int f (pos (off s q (closest A (fine f))))
  unfolding sum off
  sum_high s A h = go s
    where
      F : 0 < fine f
      F = pow_pos (low f)

      under : 2 ^ (prec f - 1) * fine f + 2 ^ (prec f - 2) * fine f ≤ q * fine f
      under = le_trans (le_of_eq (sym (add-mul (2 ^ (prec f - 1)) (2 ^ (prec f - 2)) (fine f)))) (mul-le-mul_right (fine f) lo)

      upper : q * fine f + 2 ^ (prec f - 2) * fine f ≤ 2 ^ prec f * fine f
      upper = le_trans (le_of_eq (sym (add-mul q (2 ^ (prec f - 2)) (fine f)))) (mul-le-mul_right (fine f) hi)

      fit : Between A (2 ^ (prec f - 1) * fine f) (q * fine f) (2 ^ prec f * fine f)
      fit = between A (2 ^ (prec f - 1) * fine f) (q * fine f) (2 ^ (prec f - 2) * fine f) (2 ^ prec f * fine f) h under upper

      go : (s : Bool) → sum f s A false (q * fine f) (fine f) ≡ of_int f (pos (off s q (closest A (fine f))))
      go false =
          ap (λ (n : ℕ). round f false n (fine f)) (add_comm A (q * fine f))
          ∙ round_high f (q * fine f + A) fit.from_up fit.to_up
          ∙ ap (λ (n : ℕ). of_int f (pos n)) (closest_up q A (fine f) even F)
      go true =
          ap (λ (b : Bool). cond b (round f false (q * fine f - A) (fine f)) (round f (true && ltb (q * fine f) A) (A - q * fine f) (fine f))) (lt-ltb A (q * fine f) fit.below)
          ∙ round_high f (q * fine f - A) fit.from_down fit.to_down
          ∙ ap (λ (n : ℕ). of_int f (pos n)) (closest_down q A (fine f) even F (le_of_lt fit.below))

  pub add_high : (x y : Float) (s : Bool) (A : ℕ) → HasValue x s A (fine f) → HasValue y false q 1 → A < 2 ^ (prec f - 2) * fine f → add f x y ≡ of_int f (pos (off s q (closest A (fine f))))
  add_high x y s A v w h = add_is f x y s false A (q * fine f) (fine f) (pow_pos (low f)) v (whole_value y false q (fine f) w) ∙ sum_high s A h

-- ---- the fields of a word

no : {X : Type 0} (b : Bool) (x y : X) → T (not b) → cond b x y ≡ y
no true x y t = absurd t
no false x y t = refl

word_is : (w : ℕ) → of_bits binary32 w ≡ of_fields binary32 (leb (2 ^ 31) w) (w % 2 ^ 31 / 2 ^ 23) (w % 2 ^ 23)
unfolding of_bits
word_is w = refl

value_low : (s : Bool) (t : ℕ) → HasValue (of_fields binary32 s 0 t) s (t * 2 ^ 0) one
unfolding of_fields
value_low s t = odd_sign 24 s t 0 149

value_high : (s : Bool) (x t : ℕ) → suc x < 255 → HasValue (of_fields binary32 s (suc x) t) s ((2 ^ 23 + t) * 2 ^ x) one
unfolding of_fields
value_high s x t h =
    subst (λ (r : Float). HasValue r s ((2 ^ 23 + t) * 2 ^ x) one)
    (sym (no (eqb (suc x) 255) (cond (eqb t 0) (inf s) nan) (odd 24 s (2 ^ 23 + t) x 149) (not_T (eqb (suc x) 255) (λ e. absurd (omega (arith, eqb→eq (suc x) 255 e))))))
    (odd_sign 24 s (2 ^ 23 + t) x 149)

value_ones : (s : Bool) (t : ℕ) → T (not (finite (of_fields binary32 s 255 t)))
unfolding of_fields
value_ones s t = cond_case (λ (r : Float). T (not (finite r))) (eqb t 0) (inf s) nan (λ _. tt) (λ _. tt)

-- the sign of a word
abbrev pub minus : ℕ → Bool
minus w = leb (2 ^ 31) w

-- the exponent's field of a word
abbrev pub field : ℕ → ℕ
field w = w % 2 ^ 31 / 2 ^ 23

by_field : (P : Float → Type 0) (w f : ℕ) → field w ≡ f → P (of_fields binary32 (minus w) f (w % 2 ^ 23)) → P (of_bits binary32 w)
by_field P w f e p = subst P (sym (word_is w ∙ ap (λ (n : ℕ). of_fields binary32 (minus w) n (w % 2 ^ 23)) e)) p

-- A word below 2^22 in size has at most 24 digits with at most 147 zeros after them, in units.
pub record Small (w : ℕ) : Type 0 where
  pub digits : ℕ
  pub zeros : ℕ
  pub few : digits < 2 ^ 24
  pub low : zeros ≤ 147
  pub after : zeros ≡ field w - 1
  pub lead : 0 < field w → digits ≡ 2 ^ 23 + w % 2 ^ 23
  pub value : HasValue (of_bits binary32 w) (minus w) (digits * 2 ^ zeros) one

pub small : (w : ℕ) → field w < 149 → Small w
small w h = go (field w) refl h
  where
    go : (f : ℕ) → field w ≡ f → f < 149 → Small w
    go zero e h = record {
      digits = w % 2 ^ 23;
      zeros = 0;
      few = omega (arith, mod-lt w (pow_pos 23));
      low = omega arith;
      after = sym (ap (λ (n : ℕ). n - 1) e);
      lead = λ l. absurd (omega (arith, e, l));
      value = by_field (λ (x : Float). HasValue x (minus w) (w % 2 ^ 23 * 2 ^ 0) one) w 0 e (value_low (minus w) (w % 2 ^ 23));
    }
    go (suc x) e h = record {
      digits = 2 ^ 23 + w % 2 ^ 23;
      zeros = x;
      few = omega (arith, mod-lt w (pow_pos 23));
      low = omega arith;
      after = omega (arith, e);
      lead = λ l. refl;
      value = by_field (λ (r : Float). HasValue r (minus w) ((2 ^ 23 + w % 2 ^ 23) * 2 ^ x) one) w (suc x) e (value_high (minus w) x (w % 2 ^ 23) (omega arith));
    }

pub small_below : (w : ℕ) (p : Small w) → p.digits * 2 ^ p.zeros < 2 ^ 22 * one
small_below w p = lt_of_lt_of_le (shl_lt 24 p.zeros p.few) (le_trans (pow_mono {i = 24 + p.zeros} {j = 22 + 149} (omega (arith, p.low))) (le_of_eq (pow-add 2 22 149)))

-- A word from 2^22 on in size, with its size in units.
pub record Large (w : ℕ) : Type 0 where
  pub count : ℕ
  pub least : 2 ^ 22 * one ≤ count
  pub value : HasValue (of_bits binary32 w) (minus w) count one

pub large : (w : ℕ) → 149 ≤ field w → (field w ≡ 255 → ⊥) → Large w
large w h n = go (field w) refl h n
  where
    go : (f : ℕ) → field w ≡ f → 149 ≤ f → (f ≡ 255 → ⊥) → Large w
    go zero e h n = absurd (omega arith)
    go (suc x) e h n = record {
      count = (2 ^ 23 + w % 2 ^ 23) * 2 ^ x;
      least =
          le_trans (le_of_eq (sym (pow-add 2 22 149)))
          (le_trans (pow_mono {i = 22 + 149} {j = 23 + x} (omega arith)) (le_trans (le_of_eq (pow-add 2 23 x)) (mul-le-mul_right (2 ^ x) (le-add_right (2 ^ 23) (w % 2 ^ 23)))));
      value = by_field (λ (r : Float). HasValue r (minus w) ((2 ^ 23 + w % 2 ^ 23) * 2 ^ x) one) w (suc x) e (value_high (minus w) x (w % 2 ^ 23) (lt_of_le-ne (omega arith) n));
    }

pub no_number : (w : ℕ) → field w ≡ 255 → T (not (finite (of_bits binary32 w)))
no_number w e = by_field (λ (r : Float). T (not (finite r))) w 255 e (value_ones (minus w) (w % 2 ^ 23))

pub number : (w : ℕ) → (field w ≡ 255 → ⊥) → T (not (nan_bits binary32 w))
unfolding nan_bits
number w n = not_T (eqb (field w) 255 && not (eqb (w % 2 ^ 23) 0)) (λ t. n (eqb→eq (field w) 255 (and_l (eqb (field w) 255) (not (eqb (w % 2 ^ 23) 0)) t)))
