-- What the code finds of a word, read as what `Places` asks at a pitch.
use mathlib.Core.Path.{◌≡◌, refl, sym, ap, ◌∙◌, subst}
use mathlib.Core.Bool.{true, false}
use Prim.Native.Nat.{ℕ, ◌+◌, ◌-◌, ◌*◌, ◌^◌, ◌≤◌, ◌<◌}
use native.Mathlib.Nat.{le_trans, le_of_eq, lt_of_le_of_lt, mul_assoc, add-mul, mul-pos, mul-le-mul_right, le_of_mul-le-mul_right}
use native.Mathlib.Omega.{arith}
use lib.Dec.{T, lit≤}
use lib.Pow.{pow-add, pow_pos}
use lib.IntN.{ℤ, pos, nat_abs, ◌-ℤ◌}
use mir.Syntax.{w32}
use mir.Val.{to_z, of_z}
use lib.Ieee.{Float, binary32, of_bits, sub, of_int, eq, level, in_float}
use lib.Ieee.Exact.{HasValue}
use lib.Ieee.Fits.{sub-fits}
use lib.Ieee.Nearest.{closest}
use Rattle.base_types.specs.Pitches.{pitch_of}
use Rattle.base_types.specs.declared.Pitch.{Pitch}
use Rattle.base_types.proofs.Laws.Pitches.{pitch_some, pitch_most}
use Rattle.base_limits.specs.Limits.{greatest}
use Rattle.grid_coordinate.specs.Units.{one, signed, units}
use Rattle.grid_coordinate.specs.Places.{whole, rest, Lands, Places}
use Rattle.grid_coordinate.specs.declared.Coordinate.TheVariants.{Exact, Shifted, TooFar}
use Rattle.grid_coordinate.proofs.Laws.Nearest.{apart, apart_scale, closest_near}
use Rattle.grid_coordinate.proofs.Laws.Signs.{abs_signed, difference_zero, zero_difference}
use Rattle.grid_coordinate.proofs.Laws.Floats.{Is, is_units, minus, field, Small, small, large, less_whole, whole_value, of_int_lem, in_float_lem, sign_of, sign_kept, eq_is, level_same, level_other}
use Rattle.grid_coordinate.proofs.Laws.Rests.{whole_signed, rest_signed}
use Rattle.grid_coordinate.proofs.Laws.Coordinates.{count, counted, size, whole_is, size_small, no_further, held}

-- ---- from 2^22 on

-- where a value reaches a number and a pitch more, its multiple reaches that number
reached : (n q p : ℕ) → 0 < p → (q + p) * one ≤ n → q ≤ closest n (p * one) * p
reached n q p some h =
    let k = closest n (p * one) in
    let g : q + p ≤ k * p + p = le_of_mul-le-mul_right (le_trans h (one_more n k p one (closest_near n (p * one) (mul-pos some (pow_pos 149))).half)) (pow_pos 149) in
    omega (arith, g)
  where
    one_more : (n k p u : ℕ) → apart n (k * (p * u)) * 2 ≤ p * u → n ≤ (k * p + p) * u
    one_more n k p u e = omega (arith, e, add-mul (k * p) p u, mul_assoc k p u)

pub beyond : (w p : ℕ) → 0 < p → p ≤ 10 → 149 ≤ field w → (field w ≡ 255 → ⊥) → Places p (of_bits binary32 w) (TooFar (of_bits binary32 w))
beyond w p some most h n =
    let l = large w h n in
    let i = is_units (of_bits binary32 w) (minus w) l.count l.value in
    let room : greatest + 1 + 10 ≤ 2 ^ 22 = lit≤ tt in
    let g : (greatest + 1 + p) * one ≤ l.count = le_trans (mul-le-mul_right {m = greatest + 1 + p} {n = 2 ^ 22} one (le_trans (omega arith) room)) l.least in
    let r : greatest + 1 ≤ closest l.count (p * one) * p = reached l.count (greatest + 1) p some g in (
      i.number,
      subst (λ (m : ℕ). greatest < m) (sym (ap (λ (z : ℤ). nat_abs (whole p z)) i.counts ∙ ap nat_abs (whole_signed p some (minus w) l.count) ∙ abs_signed (minus w) (closest l.count (p * one) * p)))
          (omega arith),
      refl,
    )

-- ---- below 2^22

module _ (w : ℕ) (h : field w < 149) (p : ℕ) (some : 0 < p) where
  abbrev x : Float
  x = of_bits binary32 w

  abbrev parts : Small w
  parts = small w h

  -- the sizes of the word in units and of its multiple
  abbrev n : ℕ
  n = count w h

  abbrev m : ℕ
  m = size w h p some

  multiple_is : whole p (units x) ≡ signed (minus w) m
  multiple_is = whole_is w h p some

  few : m ≤ 2 ^ 24
  few = le_trans (size_small w h p some) (lit≤ tt)

  rest_is : rest p (units x) ≡ signed (minus w) n -ℤ signed (minus w) (m * one)
  rest_is = ap (rest p) (counted w h).counts ∙ rest_signed p some (minus w) n

  -- its distance from the multiple has no more digits than it has, and the same zeros
  zeros_left : (149 - parts.zeros) + parts.zeros ≡ 149
  zeros_left = omega (arith, parts.low)

  over : m * 2 ^ (149 - parts.zeros) * 2 ^ parts.zeros ≡ m * one
  over = mul_assoc m (2 ^ (149 - parts.zeros)) (2 ^ parts.zeros) ∙ ap (λ (k : ℕ). m * k) (sym (pow-add 2 (149 - parts.zeros) parts.zeros) ∙ ap (λ (k : ℕ). 2 ^ k) zeros_left)

  distance : apart n (m * one) ≡ apart parts.digits (m * 2 ^ (149 - parts.zeros)) * 2 ^ parts.zeros
  distance = sym (apart_scale parts.digits (m * 2 ^ (149 - parts.zeros)) (2 ^ parts.zeros) ∙ ap (apart n) over)

  few_digits : apart parts.digits (m * 2 ^ (149 - parts.zeros)) < 2 ^ 24
  few_digits = lt_of_le_of_lt (le_of_mul-le-mul_right (le_trans (le_of_eq (sym distance)) (no_further w h p some)) (pow_pos parts.zeros)) parts.few

  near_float : HasValue (of_int binary32 (signed (minus w) m)) (sign_of (minus w) m) (m * one) one
  near_float = whole_value (of_int binary32 (signed (minus w) m)) (sign_of (minus w) m) m one (of_int_lem binary32 (minus w) m few)

  rest_float : Is (sub binary32 x (of_int binary32 (signed (minus w) m))) (rest p (units x))
  rest_float =
      let r = less_whole x (minus w) n m (apart parts.digits (m * 2 ^ (149 - parts.zeros))) parts.zeros parts.value few few_digits (le_trans parts.low (lit≤ tt)) distance in
      record { number = r.number; counts = r.counts ∙ sym rest_is }

  same : eq x (of_int binary32 (signed (minus w) m)) ≡ level (minus w) n (sign_of (minus w) m) (m * one)
  same = eq_is x (of_int binary32 (signed (minus w) m)) (minus w) (sign_of (minus w) m) n (m * one) one (pow_pos 149) parts.value near_float

  rest_none : eq x (of_int binary32 (signed (minus w) m)) ≡ true → rest p (units x) ≡ pos 0
  rest_none e =
      let s = level_same (minus w) (sign_of (minus w) m) n (m * one) (sym same ∙ e) ∙ sign_kept (minus w) m one in
      rest_is ∙ difference_zero (minus w) n (m * one) (sym (abs_signed (minus w) n) ∙ ap nat_abs s ∙ abs_signed (minus w) (m * one))

  rest_some : eq x (of_int binary32 (signed (minus w) m)) ≡ false → rest p (units x) ≡ pos 0 → ⊥
  rest_some e z =
      level_other (minus w) (sign_of (minus w) m) n (m * one) (sym same ∙ e)
      (ap (signed (minus w)) (zero_difference (minus w) n (m * one) (sym rest_is ∙ z)) ∙ sym (sign_kept (minus w) m one))

  pub as_float : (k : ℤ) → k ≡ whole p (units x) → T (in_float binary32 k)
  as_float k e = subst (λ (z : ℤ). T (in_float binary32 z)) (sym (e ∙ multiple_is)) (in_float_lem binary32 (minus w) m few)

  -- ---- the answers

  lands : (k : ℤ) → k ≡ whole p (units x) → nat_abs k ≤ greatest → Lands p x k
  lands k e g = record { number = (counted w h).number; nearest = e; within = g }

  pub too_far : (k : ℤ) → k ≡ whole p (units x) → greatest < nat_abs k → Places p x (TooFar x)
  too_far k e g = ((counted w h).number, subst (λ (z : ℤ). greatest < nat_abs z) e g, refl)

  pub exactly : (k : ℤ) → k ≡ whole p (units x) → nat_abs k ≤ greatest → eq x (of_int binary32 k) ≡ true → Places p x (Exact k)
  exactly k e g t = (lands k e g, rest_none (ap (λ (z : ℤ). eq x (of_int binary32 z)) (sym (e ∙ multiple_is)) ∙ t))

  pub shifted : (k : ℤ) → k ≡ whole p (units x) → nat_abs k ≤ greatest → eq x (of_int binary32 k) ≡ false → Places p x (Shifted k (sub binary32 x (of_int binary32 k)))
  shifted k e g t =
      let i = subst (λ (z : ℤ). Is (sub binary32 x (of_int binary32 z)) (rest p (units x))) (sym (e ∙ multiple_is)) rest_float in (
        lands k e g,
        record {
          some = rest_some (ap (λ (z : ℤ). eq x (of_int binary32 z)) (sym (e ∙ multiple_is)) ∙ t);
          fitting = sub-fits binary32 x (of_int binary32 k);
          number = i.number;
          exact = i.counts;
        },
      )

-- ---- the multiple, found at the number that a pitch has

module _ (w : ℕ) (h : field w < 149) (pitch : Pitch) (n : ℕ) (e : n ≡ pitch_of pitch) where
  pub by_pace : (k : ℤ) → k ≡ whole n (units (of_bits binary32 w)) → to_z w32 (of_z w32 k) ≡ whole (pitch_of pitch) (units (of_bits binary32 w))
  by_pace k r = held w h (pitch_of pitch) (pitch_some pitch) k (r ∙ ap (λ (m : ℕ). whole m (units (of_bits binary32 w))) e)

  pub by_one : (k : ℤ) → n ≡ 1 → k ≡ whole 1 (units (of_bits binary32 w)) → to_z w32 (of_z w32 k) ≡ whole (pitch_of pitch) (units (of_bits binary32 w))
  by_one k o r = by_pace k (r ∙ ap (λ (m : ℕ). whole m (units (of_bits binary32 w))) (sym o))

  pub pace_room : (field w < 149) × (0 < n) × (n ≤ 10)
  pace_room = (h, omega (arith, pitch_some pitch), omega (arith, pitch_most pitch))
