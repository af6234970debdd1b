-- What `near` computes, step by step: the quotient as a whole number of parts, the sum that rounds it, and the way back to an integer.
use mathlib.Core.Path.{◌≡◌, refl, sym, ap, ◌∙◌, subst}
use mathlib.Core.Bool.{Bool, true, false, not, ◌&&◌, cond}
use Prim.Native.Nat.{ℕ, zero, suc, ◌+◌, ◌-◌, ◌*◌, ◌/◌, ◌%◌, ◌^◌, ◌≤◌, ◌<◌}
use native.Mathlib.Nat.{le_trans, le_of_eq, le_of_lt, lt_of_lt_of_le, lt_of_le_of_lt, one-mul, mul_assoc, mul_comm, mul-pos, mul-le-mul, le_refl, zero-mul, suc-mul, mul-le-mul_right, mul-lt-mul_of_pos_right, div-lt_iff_lt-mul}
use native.Mathlib.Omega.{arith}
use borrow.Author.Tests.{lt-ltb, le-ltb}
use lib.Dec.{T, lit≤, lit<}
use lib.Pow.{pow-add, pow_pos, pow_mono, shl_lt}
use lib.IntN.{ℤ, pos, neg_ℤ}
use mir.Syntax.{w32}
use mir.Val.{to_z, of_z}
use mir.ValLaws.{to_z-of_z}
use lib.Ieee.{Float, nan, inf, fin, fits, is_nan, binary32, binary64, of_bits, size, round, sum, add, sub, mul, div, of_int, in_signed, to_signed, unlike}
use lib.Ieee.Digits.{size-le}
use lib.Ieee.Nearest.{closest, closest_same}
use lib.Ieee.Fits.{round_is, and_i, fits_widens}
use lib.Ieee.Bits.{of_bits-fits}
use lib.Ieee.Exact.{HasValue, units_val}
use lib.Ieee.Scale.{grid}
use lib.Ieee.Back.{round_whole, positive_back, negative_back}
use Rattle.grid_coordinate.specs.Units.{one, signed, units}
use Rattle.grid_coordinate.specs.Places.{whole}
use Rattle.grid_coordinate.proofs.Laws.Nearest.{apart, closest_near}
use Rattle.grid_coordinate.proofs.Laws.Signs.{sfits_signed}
use Rattle.grid_coordinate.proofs.Laws.Floats.{minus, field, Small, small, sign_of, off, of_int_lem, in_float_lem, add_high, sub_is}
use Rattle.grid_coordinate.proofs.Laws.Coordinates.{count, index, size_small, index_small, whole_is}
use Rattle.grid_floats.proofs.Laws.Sums.{mul_is}
use Rattle.grid_place.proofs.Laws.Parts.{closest_parts}
use Rattle.grid_place.proofs.Laws.Quotients.{div_is}

-- how many of binary64's smallest values a whole number has
abbrev fine : ℕ
fine = 2 ^ 1074

-- ---- the quotient

-- a float that has its value with either sign
signed_val : (s : Bool) (a c : ℕ) → grid binary64 a c < 2 ^ 2098 → HasValue (round binary64 s a c) s (grid binary64 a c) fine
signed_val s a c h = subst (λ (z : Float). HasValue z s (grid binary64 a c) fine) (sym (round_is binary64 s a c)) (units_val binary64 s (closest (a * fine) (c * 2 ^ (size (a * fine / c) - 53))) (size (a * fine / c) - 53) h)

module _ (g z p : ℕ) (few : g < 2 ^ 24) (low : z ≤ 147) (some : 0 < p) (most : p ≤ 10) where
  abbrev n : ℕ
  n = g * 2 ^ z

  abbrev c : ℕ
  c = p * one

  C : 0 < c
  C = mul-pos some (pow_pos 149)

  -- how many digits are dropped
  abbrev k : ℕ
  k = size (n * fine / c) - 53

  dropped : k ≤ 896 + z
  dropped = let h : size (n * fine / c) ≤ 949 + z = size-le (n * fine / c) (949 + z) ((div-lt_iff_lt-mul C).1 below) in omega arith
    where
      below : n * fine < 2 ^ (949 + z) * c
      below =
          let a : n < 2 ^ (24 + z) = shl_lt 24 z few in
          let b : n * fine < 2 ^ (24 + z) * fine = mul-lt-mul_of_pos_right a (pow_pos 1074) in
          let d : 2 ^ (24 + z) * fine ≡ 2 ^ (949 + z + 149) = sym (pow-add 2 (24 + z) 1074) ∙ (let e : 24 + z + 1074 ≡ 949 + z + 149 = omega arith in ap (λ (x : ℕ). 2 ^ x) e) in
          let f : 2 ^ (949 + z + 149) ≡ 2 ^ (949 + z) * (1 * one) = pow-add 2 (949 + z) 149 ∙ ap (λ (x : ℕ). 2 ^ (949 + z) * x) (sym (one-mul one)) in
          let j : 2 ^ (949 + z) * (1 * one) ≤ 2 ^ (949 + z) * c = mul-le-mul (le_refl (2 ^ (949 + z))) (mul-le-mul_right one some) in
          lt_of_lt_of_le b (le_trans (le_of_eq (d ∙ f)) j)

  -- what is left of the places
  abbrev s : ℕ
  s = 1073 - k

  split : fine ≡ 2 ^ suc s * 2 ^ k
  split = let e : 1074 ≡ suc s + k = omega (arith, dropped) in ap (λ (x : ℕ). 2 ^ x) e ∙ pow-add 2 (suc s) k

  regroup : (a b d e : ℕ) → a * (b * d) * e ≡ a * b * (e * d)
  regroup a b d e = simp (mul_assoc, mul_comm)

  kept_is : closest (n * fine) (c * 2 ^ k) ≡ closest (n * 2 ^ suc s) c
  kept_is =
      closest_same (n * fine) (c * 2 ^ k) (n * 2 ^ suc s) c (mul-pos C (pow_pos k)) C
      (ap (λ (x : ℕ). n * x * c) split ∙ regroup n (2 ^ suc s) (2 ^ k) c)

  -- the quotient goes where the value goes
  pub quotient_closest : closest (grid binary64 n c) fine ≡ closest n c
  quotient_closest =
      ap (λ (x : ℕ). closest (x * 2 ^ k) fine) kept_is
      ∙ ap (λ (x : ℕ). closest (closest (n * 2 ^ suc s) c * 2 ^ k) x) split
      ∙ closest_same (closest (n * 2 ^ suc s) c * 2 ^ k) (2 ^ suc s * 2 ^ k) (closest (n * 2 ^ suc s) c) (2 ^ suc s) (mul-pos (pow_pos (suc s)) (pow_pos k)) (pow_pos (suc s))
      (mul_assoc (closest (n * 2 ^ suc s) c) (2 ^ k) (2 ^ suc s) ∙ ap (λ (x : ℕ). closest (n * 2 ^ suc s) c * x) (mul_comm (2 ^ k) (2 ^ suc s)))
      ∙ closest_parts g z p s low some most (omega (arith, dropped))

  -- and is small
  pub quotient_small : closest n c ≤ 2 ^ 22 → grid binary64 n c < 2 ^ 51 * fine
  quotient_small h =
      let K : closest (grid binary64 n c) fine ≤ 2 ^ 22 = le_trans (le_of_eq quotient_closest) h in
      let r = closest_near (grid binary64 n c) fine (pow_pos 1074) in
      lt_of_le_of_lt (reach (grid binary64 n c) (closest (grid binary64 n c) fine) fine r.half)
      (lt_of_le_of_lt (mul-le-mul_right {m = suc (closest (grid binary64 n c) fine)} {n = suc (2 ^ 22)} fine (omega (arith, K))) (mul-lt-mul_of_pos_right {m = suc (2 ^ 22)} {n = 2 ^ 51} (lit< tt) (pow_pos 1074)))
    where
      reach : (a b u : ℕ) → apart a (b * u) * 2 ≤ u → a ≤ suc b * u
      reach a b u e = omega (arith, e, suc-mul b u)

-- ---- from the sum back to an integer

-- what was added is taken away again: a difference that is 0 has no sign
lowered : (q : ℕ) (s : Bool) (m : ℕ) (y : Float) → HasValue y false q 1 → m ≤ q → q + m ≤ 2 ^ 53 → sub binary64 (of_int binary64 (pos (off s q m))) y ≡ of_int binary64 (signed s m)
unfolding off of_int sum
lowered q false m y v h g =
    sub_is binary64 (of_int binary64 (pos (q + m))) y false false (q + m) q 1 (omega arith) (round_whole binary64 false (q + m) g) v
    ∙ ap (λ (b : Bool). cond b (round binary64 true (q - (q + m)) 1) (round binary64 false (q + m - q) 1)) (le-ltb (q + m) q (omega arith))
    ∙ (let e : q + m - q ≡ m = omega arith in ap (λ (x : ℕ). round binary64 false x 1) e)
lowered q true zero y v h g =
    sub_is binary64 (of_int binary64 (pos (q - 0))) y false false (q - 0) q 1 (omega arith) (round_whole binary64 false (q - 0) (omega arith)) v
    ∙ ap (λ (b : Bool). cond b (round binary64 true (q - (q - 0)) 1) (round binary64 false (q - 0 - q) 1)) (le-ltb (q - 0) q (omega arith))
    ∙ (let e : q - 0 - q ≡ 0 = omega arith in ap (λ (x : ℕ). round binary64 false x 1) e)
lowered q true (suc m) y v h g =
    sub_is binary64 (of_int binary64 (pos (q - suc m))) y false false (q - suc m) q 1 (omega arith) (round_whole binary64 false (q - suc m) (omega arith)) v
    ∙ ap (λ (b : Bool). cond b (round binary64 true (q - (q - suc m)) 1) (round binary64 false (q - suc m - q) 1)) (lt-ltb (q - suc m) q (omega arith))
    ∙ (let e : q - (q - suc m) ≡ suc m = omega arith in ap (λ (x : ℕ). round binary64 true x 1) e)

-- and the index is multiplied
multiplied : (s : Bool) (m p : ℕ) (y : Float) → m ≤ 2 ^ 53 → 0 < p → HasValue y false p 1 → mul binary64 (of_int binary64 (signed s m)) y ≡ of_int binary64 (signed s (m * p))
unfolding of_int sign_of
multiplied s m p y h P v = mul_is (of_int binary64 (signed s m)) y (sign_of s m) false m p (of_int_lem binary64 s m h) v ∙ go s m
  where
    same : (r : Bool) (a : ℕ) → round binary64 (unlike r false) a 1 ≡ round binary64 r a 1
    same true a = refl
    same false a = refl

    minus_int : (a : ℕ) → 0 < a → round binary64 true a 1 ≡ of_int binary64 (neg_ℤ (pos a))
    minus_int zero l = absurd (omega arith)
    minus_int (suc a) l = refl

    go : (s : Bool) (m : ℕ) → round binary64 (unlike (sign_of s m) false) (m * p) 1 ≡ of_int binary64 (signed s (m * p))
    go false zero = same false (0 * p)
    go false (suc m) = same false (suc m * p)
    go true zero = same false (0 * p) ∙ ap (λ (x : ℕ). round binary64 false x 1) (zero-mul p) ∙ sym (ap (λ (x : ℕ). of_int binary64 (neg_ℤ (pos x))) (zero-mul p))
    go true (suc m) = same true (suc m * p) ∙ minus_int (suc m * p) (mul-pos {m = suc m} {n = p} (omega arith) P)

back : (s : Bool) (m : ℕ) → m < 2 ^ 31 → T (in_signed binary64 31 (of_int binary64 (signed s m))) × (to_signed 31 (of_int binary64 (signed s m)) ≡ signed s m)
back false m h = positive_back binary64 31 m (in_float_lem binary64 false m (le_trans (le_of_lt h) (lit≤ tt))) h
back true zero h = positive_back binary64 31 0 (in_float_lem binary64 false 0 (lit≤ tt)) h
back true (suc m) h = negative_back binary64 31 m (in_float_lem binary64 true (suc m) (le_trans (le_of_lt h) (lit≤ tt))) (le_of_lt h)

-- ---- what is added, by its bits, and that a word below 2^22 is a number

pub lift_value : HasValue (of_bits binary64 0x4338_0000_0000_0000) false 6755399441055744 1
unfolding of_bits
lift_value = (refl, refl)

real : (x : Float) (s : Bool) (a c : ℕ) → HasValue x s a c → T (not (is_nan x))
unfolding is_nan
real nan s a c v = absurd v
real (inf b) s a c v = absurd v
real (fin b m e) s a c v = tt

pub widened : (w : ℕ) → field w < 149 → T (fits binary64 (of_bits binary32 w) && not (is_nan (of_bits binary32 w)))
widened w h = and_i (fits binary64 (of_bits binary32 w)) (not (is_nan (of_bits binary32 w))) (fits_widens (of_bits binary32 w) (of_bits-fits binary32 w)) (no_nan w h)
  where
    no_nan : (w : ℕ) → field w < 149 → T (not (is_nan (of_bits binary32 w)))
    no_nan w h = real (of_bits binary32 w) (minus w) ((small w h).digits * 2 ^ (small w h).zeros) one (small w h).value

-- ---- all of it

module _ (w p : ℕ) (h : field w < 149) (some : 0 < p) (most : p ≤ 10) (y : Float) (q : ℕ) (yv : HasValue y false q 1) (even : q % 2 ≡ 0) (lo : 2 ^ 52 + 2 ^ 51 ≤ q) (hi : q + 2 ^ 51 ≤ 2 ^ 53) where
  abbrev x : Float
  x = of_bits binary32 w

  abbrev t : Small w
  t = small w h

  abbrev total : ℕ
  total = count w h

  abbrev near : ℕ
  near = index w h p some

  abbrev pace : Float
  pace = of_int binary64 (pos p)

  pace_value : HasValue pace false p 1
  unfolding of_int
  pace_value = round_whole binary64 false p (le_trans most (lit≤ tt))

  abbrev result : Float
  result = mul binary64 (sub binary64 (add binary64 (div binary64 x pace) y) y) pace

  near_small : near ≤ 2 ^ 22
  near_small = index_small w h p some

  small_quotient : grid binary64 total (p * one) < 2 ^ 51 * fine
  small_quotient = quotient_small t.digits t.zeros p t.few t.low some most near_small

  lifted : add binary64 (div binary64 x pace) y ≡ of_int binary64 (pos (off (minus w) q near))
  lifted =
      ap (λ (r : Float). add binary64 r y) (div_is x pace (minus w) total p t.value pace_value some)
      ∙ add_high binary64 q even lo hi (round binary64 (minus w) total (p * one)) y (minus w) (grid binary64 total (p * one))
      (signed_val (minus w) total (p * one) (lt_of_lt_of_le small_quotient (le_trans (le_of_eq (sym (pow-add 2 51 1074))) (pow_mono {i = 1125} {j = 2098} (lit≤ tt))))) yv small_quotient
      ∙ ap (λ (m : ℕ). of_int binary64 (pos (off (minus w) q m))) (quotient_closest t.digits t.zeros p t.few t.low some most)

  result_is : result ≡ of_int binary64 (signed (minus w) (near * p))
  result_is =
      ap (λ (r : Float). mul binary64 (sub binary64 r y) pace) lifted
      ∙ ap (λ (r : Float). mul binary64 r pace) (lowered q (minus w) near y yv (le_trans near_small (le_trans (omega arith) lo)) (le_trans (omega (arith, near_small)) hi))
      ∙ multiplied (minus w) near p pace (le_trans near_small (lit≤ tt)) some pace_value

  product_small : near * p < 2 ^ 31
  product_small = lt_of_le_of_lt (size_small w h p some) (lit< tt)

  pub result_whole : T (in_signed binary64 31 result)
  result_whole = subst (λ (r : Float). T (in_signed binary64 31 r)) (sym result_is) (back (minus w) (near * p) product_small).0

  pub result_found : to_z w32 (of_z w32 (to_signed 31 result)) ≡ whole p (units x)
  result_found =
      ap (λ (r : Float). to_z w32 (of_z w32 (to_signed 31 r))) result_is
      ∙ ap (λ (z : ℤ). to_z w32 (of_z w32 z)) (back (minus w) (near * p) product_small).1
      ∙ to_z-of_z w32 (signed (minus w) (near * p)) (sfits_signed (minus w) (near * p) product_small)
      ∙ sym (whole_is w h p some)
