-- A word below 2^22 in size: its multiple of a pitch, and the sum by which `nearest` finds the whole number.
use mathlib.Core.Path.{◌≡◌, sym, ap, ◌∙◌, subst}
use mathlib.Core.Bool.{Bool, true, false}
use Prim.Native.Nat.{ℕ, ◌+◌, ◌-◌, ◌*◌, ◌%◌, ◌^◌, ◌≤◌, ◌<◌}
use native.Mathlib.Nat.{le_trans, le_of_eq, le_of_lt, le_refl, lt_of_le_of_lt, mul_assoc, mul-one, one-mul, mul-pos, mul-le-mul, mul-le-mul_right, le_of_mul-le-mul_right}
use native.Mathlib.Omega.{arith}
use native.Mathlib.Decide.{dec_lt}
use lib.Dec.{T, lit<}
use lib.Pow.{pow_pos}
use lib.IntN.{ℤ, pos, neg_ℤ, ◌-ℤ◌}
use mir.Syntax.{w32}
use mir.Val.{SFits, to_z, of_z}
use mir.ValLaws.{to_z-of_z, to_z_pos}
use lib.Ieee.{Float, binary32, of_bits, add, of_int, in_signed, to_signed}
use lib.Ieee.Back.{round_whole, positive_back}
use lib.Ieee.Exact.{HasValue}
use lib.Ieee.Nearest.{closest}
use Rattle.grid_coordinate.specs.Units.{one, signed, units}
use Rattle.grid_coordinate.specs.Places.{whole}
use Rattle.grid_coordinate.proofs.Laws.Nearest.{apart, closest_near, near_own, near_le}
use Rattle.grid_coordinate.proofs.Laws.Signs.{sfits_signed, signed_under, signed_over}
use Rattle.grid_coordinate.proofs.Laws.Floats.{Is, is_units, minus, field, Small, small, small_below, in_float_lem, off, add_high}
use Rattle.grid_coordinate.proofs.Laws.Rests.{whole_signed}

module _ (w : ℕ) (h : field w < 149) where
  abbrev x : Float
  x = of_bits binary32 w

  abbrev parts : Small w
  parts = small w h

  -- the size of the word in units
  abbrev pub count : ℕ
  count = parts.digits * 2 ^ parts.zeros

  pub counted : Is x (signed (minus w) count)
  counted = is_units x (minus w) count parts.value

  -- ---- the multiple of a pitch
  module _ (p : ℕ) (some : 0 < p) where
    P : 0 < p * one
    P = mul-pos some (pow_pos 149)

    -- which multiple it is, and its size
    abbrev pub index : ℕ
    index = closest count (p * one)

    abbrev pub size : ℕ
    size = index * p

    pub whole_is : whole p (units x) ≡ signed (minus w) size
    whole_is = ap (whole p) counted.counts ∙ whole_signed p some (minus w) count

    -- it lies no further from the word than 0 does
    pub no_further : apart count (size * one) ≤ count
    no_further = subst (λ (n : ℕ). apart count n ≤ count) (sym (mul_assoc index p one)) (near_own (closest_near count (p * one) P))

    pub index_small : index ≤ 2 ^ 22
    index_small =
        near_le P (closest_near count (p * one) P)
        (le_trans (le_of_lt (small_below w parts)) (mul-le-mul (le_refl (2 ^ 22)) (le_trans (le_of_eq (sym (one-mul one))) (mul-le-mul_right one some))))

    pub size_small : size ≤ 2 ^ 23
    size_small = le_of_mul-le-mul_right (twice count (size * one) one (small_below w parts) no_further) (pow_pos 149)
      where
        twice : (n m u : ℕ) → n < 2 ^ 22 * u → apart n m ≤ n → m ≤ 2 ^ 23 * u
        twice n m u a b = omega arith

    -- a whole number that small comes through the machine's bits as it is
    pub held : (k : ℤ) → k ≡ whole p (units x) → to_z w32 (of_z w32 k) ≡ whole p (units x)
    held k e = ap (λ (z : ℤ). to_z w32 (of_z w32 z)) (e ∙ whole_is) ∙ to_z-of_z w32 (signed (minus w) size) (sfits_signed (minus w) size (lt_of_le_of_lt size_small (lit< tt))) ∙ sym whole_is

  -- ---- the nearest whole number, by a sum: q is the even number that is added
  module _ (q : ℕ) (even : q % 2 ≡ 0) (lo : 2 ^ 23 + 2 ^ 22 ≤ q) (hi : q + 2 ^ 22 ≤ 2 ^ 24) where
    O : 0 < 1
    O = lit< tt

    abbrev near : ℕ
    near = closest count one

    near_small : near ≤ 2 ^ 22
    near_small = index_small 1 O

    near_is : whole 1 (units x) ≡ signed (minus w) near
    near_is = whole_is 1 O ∙ ap (signed (minus w)) (mul-one near)

    abbrev lifted : Float
    lifted = add binary32 x (of_int binary32 (pos q))

    abbrev above : ℕ
    above = off (minus w) q near

    above_small : above ≤ 2 ^ 24
    unfolding off
    above_small = go (minus w)
      where
        go : (s : Bool) → off s q near ≤ 2 ^ 24
        go false = le_trans (omega (arith, near_small)) hi
        go true = le_trans (omega arith) hi

    is_whole : T (in_signed binary32 31 (of_int binary32 (pos above))) × (to_signed 31 (of_int binary32 (pos above)) ≡ pos above)
    is_whole = positive_back binary32 31 above (in_float_lem binary32 false above above_small) (lt_of_le_of_lt above_small (lit< tt))

    lifter : HasValue (of_int binary32 (pos q)) false q 1
    unfolding of_int
    lifter = round_whole binary32 false q (le_trans (omega arith) hi)

    lifted_is : lifted ≡ of_int binary32 (pos above)
    lifted_is = add_high binary32 q even lo hi x (of_int binary32 (pos q)) (minus w) count parts.value lifter (small_below w parts)

    pub lifted_whole : T (in_signed binary32 31 lifted)
    lifted_whole = subst (λ (y : Float). T (in_signed binary32 31 y)) (sym lifted_is) is_whole.0

    lifted_cast : to_z w32 (of_z w32 (to_signed 31 lifted)) ≡ pos above
    lifted_cast = ap (λ (y : Float). to_z w32 (of_z w32 (to_signed 31 y))) lifted_is ∙ ap (λ (z : ℤ). to_z w32 (of_z w32 z)) is_whole.1 ∙ to_z_pos w32 above (lt_of_le_of_lt above_small (lit< tt))

    back_down : (s : Bool) → pos (off s q near) -ℤ pos q ≡ signed s near
    unfolding off
    back_down false = signed_over false (q + near) q (omega arith) ∙ ap pos (omega arith)
    back_down true = go (dec_lt 0 near)
      where
        below : near ≤ q
        below = le_trans near_small (le_trans (omega arith) lo)

        go : Dec (0 < near) → pos (q - near) -ℤ pos q ≡ neg_ℤ (pos near)
        go (yes h) =
            let y : q - (q - near) ≡ near = omega (arith, below) in
            signed_under false (q - near) q (omega (arith, below)) ∙ ap (λ (n : ℕ). neg_ℤ (pos n)) y
        go (no h) =
            let z : near ≡ 0 = omega arith in
            let y : q - near - q ≡ 0 = omega arith in
            signed_over false (q - near) q (omega arith) ∙ ap pos y ∙ sym (ap (λ (n : ℕ). neg_ℤ (pos n)) z)

    lowered : to_z w32 (of_z w32 (to_signed 31 lifted)) -ℤ pos q ≡ whole 1 (units x)
    lowered = ap (λ (z : ℤ). z -ℤ pos q) lifted_cast ∙ back_down (minus w) ∙ sym near_is

    pub lowered_fits : SFits w32 (to_z w32 (of_z w32 (to_signed 31 lifted)) -ℤ pos q)
    lowered_fits = subst (SFits w32) (sym (lowered ∙ near_is)) (sfits_signed (minus w) near (lt_of_le_of_lt near_small (lit< tt)))

    pub found : to_z w32 (of_z w32 (to_z w32 (of_z w32 (to_signed 31 lifted)) -ℤ pos q)) ≡ whole 1 (units x)
    found = held 1 O (to_z w32 (of_z w32 (to_signed 31 lifted)) -ℤ pos q) lowered
