-- Where the grid ends, told by a word's bits: a size goes beyond the last multiple on the grid from halfway to the next one on, the middle
-- itself only where the next one is even; and below the sign the bits of words are in the order of their sizes.
use mathlib.Core.Path.{◌≡◌, refl, sym, ap, ◌∙◌, subst}
use mathlib.Core.Bool.{Bool, true, false, not, ◌||◌, or-true}
use mathlib.Core.Logic.{⊎_elim}
use Prim.Native.Nat.{ℕ, zero, suc, ◌+◌, ◌-◌, ◌*◌, ◌%◌, ◌^◌, ◌≤◌, ◌<◌}
use native.Mathlib.Nat.{le_trans, le_of_eq, lt_of_lt_of_le, eq-or-lt_of_le, mul_assoc, mul_comm, add-mul, one-mul, suc-mul, mul-pos, mul-le-mul_right, mul-lt-mul_of_pos_right, mod-lt}
use native.Mathlib.Omega.{arith}
use native.Mathlib.Decide.{dec_lt}
use lib.Dec.{T, leb, ltb, lit≤, lit<}
use lib.Pow.{pow-add, pow_pos, pow_mono, shl_lt}
use lib.IntN.{ℤ, nat_abs}
use lib.Ieee.{binary32, of_bits}
use lib.Ieee.Scale.{finite}
use borrow.Author.Tests.{le-leb, lt-leb, lt-ltb, le-ltb}
use Rattle.base_types.specs.Pitches.{pitch_of}
use Rattle.base_types.specs.declared.Pitch.{Pitch}
use Rattle.base_types.specs.declared.Pitch.TheVariants.{One, Two, Five, Ten}
use Rattle.base_limits.specs.Limits.{greatest}
use Rattle.grid_coordinate.specs.Units.{one}
use Rattle.grid_coordinate.specs.Places.{is_off}
use Rattle.grid_coordinate.proofs.Laws.Nearest.{apart, step, Near, closest_near}
use Rattle.grid_coordinate.proofs.Laws.Signs.{abs_signed}
use Rattle.grid_coordinate.proofs.Laws.Floats.{minus, field, Small, small, no_number}
use Rattle.grid_coordinate.proofs.Laws.Coordinates.{count, counted, index, size, whole_is}
use Rattle.grid_place.specs.Workings.Ends.{last_of, even_of, end_of}
use Rattle.grid_place.proofs.Laws.Twice.{odd_times}
use Rattle.grid_place.proofs.Laws.Placing.{beyond}

-- ---- halfway

-- The multiple g is the last, and e is 0 where it is odd, so that the middle goes beyond it, and 1 where it is even.
module _ (n u g k e : ℕ) (near : Near n u k) (some : 0 < u) (once : e ≤ 1) (turn : (g + e) % 2 ≡ 1) where
  below_half : n * 2 < (2 * g + 1) * u + e → k ≤ g
  below_half l = go (dec_lt g k) (dec_lt (suc g) k)
    where
      go : Dec (g < k) → Dec (suc g < k) → k ≤ g
      go (no h) d = omega arith
      go (yes h) (yes d) = absurd (omega (arith, step u d, suc-mul g u, odd_times g u, near.half, l))
      go (yes h) (no d) =
          let a : k ≡ suc g = omega arith in
          let b : apart n (k * u) * 2 ≡ u = omega (arith, ap (λ (z : ℕ). z * u) a, suc-mul g u, odd_times g u, near.half, l) in
          let f : e ≡ 1 = omega (arith, ap (λ (z : ℕ). z * u) a, suc-mul g u, odd_times g u, near.half, l) in
          let c : k % 2 ≡ 0 = near.even b in
          absurd (omega arith)

  from_half : (2 * g + 1) * u + e ≤ n * 2 → g < k
  from_half l = go (dec_lt g k)
    where
      same : g ≡ k → ⊥
      same s =
          let a : g * u ≡ k * u = ap (λ (z : ℕ). z * u) s in
          let b : apart n (k * u) * 2 ≡ u = omega (arith, odd_times g u, near.half, l, a) in
          let f : e ≡ 0 = omega (arith, odd_times g u, near.half, l, a) in
          let c : k % 2 ≡ 0 = near.even b in
          omega arith

      go : Dec (g < k) → g < k
      go (yes h) = h
      go (no h) =
          ⊎_elim
          (λ (s : k ≡ g). absurd (same (sym s)))
          (λ (d : k < g). absurd (omega (arith, step u d, odd_times g u, near.half, l, some)))
          (eq-or-lt_of_le (omega arith))

-- ---- the order of the bits

-- the bits without the sign are the field and the digits after the first
bits_are : (w : ℕ) → w % 2 ^ 31 ≡ field w * 2 ^ 23 + w % 2 ^ 23
bits_are w = omega arith

-- q is where the grid of the pitch p ends: g * p is the last multiple on the grid
record End (p q g e : ℕ) : Type 0 where
  some : 0 < p
  most : p ≤ 10
  once : e ≤ 1
  turn : (g + e) % 2 ≡ 1
  last : g * p ≤ greatest
  next : greatest < suc g * p
  least : 2 ^ 15 ≤ (2 * g + 1) * p
  room : (2 * g + 1) * p < 2 ^ 16
  bits : q ≡ 140 * 2 ^ 23 + (2 * g + 1) * p * 2 ^ 8 + e

module _ (w p q g e : ℕ) (end : End p q g e) (h : field w < 149) where
  abbrev t : Small w
  t = small w h

  -- the middle, doubled
  abbrev c : ℕ
  c = (2 * g + 1) * p

  -- the sizes of the fields below that of the end, and above it
  lower : field w < 141 → count w h * 2 < c * one + e
  lower l =
      let a : t.digits * 2 ^ t.zeros < 2 ^ (24 + t.zeros) = shl_lt 24 t.zeros t.few in
      let b : 2 ^ (24 + t.zeros) ≤ 2 ^ 163 = pow_mono {i = 24 + t.zeros} {j = 163} (omega (arith, t.after)) in
      let d : 2 ^ 163 * 2 ≡ 2 ^ 15 * one = sym (pow-add 2 163 1) ∙ pow-add 2 15 149 in
      let f : 2 ^ 15 * one ≤ c * one = mul-le-mul_right {m = 2 ^ 15} {n = c} one end.least in
      let r : count w h * 2 < c * one = lt_of_lt_of_le (mul-lt-mul_of_pos_right (lt_of_lt_of_le a b) (lit< tt)) (le_trans (le_of_eq d) f) in
      plus (count w h * 2) (c * one) r
    where
      plus : (a b : ℕ) → a < b → a < b + e
      plus a b h = omega arith

  higher : 141 < field w → c * one + e ≤ count w h * 2
  higher l =
      let a : 2 ^ 23 ≤ t.digits = omega (arith, t.lead (omega arith)) in
      let b : 2 ^ 164 ≤ 2 ^ (23 + t.zeros) = pow_mono {i = 164} {j = 23 + t.zeros} (omega (arith, t.after)) in
      let d : 2 ^ (23 + t.zeros) ≤ t.digits * 2 ^ t.zeros = le_trans (le_of_eq (pow-add 2 23 t.zeros)) (mul-le-mul_right (2 ^ t.zeros) a) in
      let f : 2 ^ 164 * 2 ≡ 2 ^ 16 * one = sym (pow-add 2 164 1) ∙ pow-add 2 16 149 in
      let r : suc c * one ≤ count w h * 2 = le_trans (mul-le-mul_right {m = suc c} {n = 2 ^ 16} one end.room) (le_trans (le_of_eq (sym f)) (mul-le-mul_right 2 (le_trans b d))) in
      plus c one (count w h * 2) (pow_pos 149) r
    where
      plus : (a u b : ℕ) → 0 < u → suc a * u ≤ b → a * u + e ≤ b
      plus a u b U h = omega (arith, h, suc-mul a u, end.once)

  -- in its field both are told by the digits
  module _ (same : field w ≡ 141) where
    scaled : count w h * 2 ≡ t.digits * 2 * 2 ^ 140
    scaled =
        ap (λ (z : ℕ). t.digits * 2 ^ z * 2) (t.after ∙ ap (λ (n : ℕ). n - 1) same)
        ∙ mul_assoc t.digits (2 ^ 140) 2 ∙ ap (λ (z : ℕ). t.digits * z) (mul_comm (2 ^ 140) 2) ∙ sym (mul_assoc t.digits 2 (2 ^ 140))

    half : c * one ≡ c * 2 ^ 9 * 2 ^ 140
    half = ap (λ (z : ℕ). c * z) (pow-add 2 9 140) ∙ sym (mul_assoc c (2 ^ 9) (2 ^ 140))

    digits_are : t.digits ≡ 2 ^ 23 + w % 2 ^ 23
    digits_are = t.lead (omega (arith, same))

    same_lower : w % 2 ^ 31 < q → count w h * 2 < c * one + e
    same_lower l = go e end.once (omega (arith, digits_are, bits_are w, same, end.bits, l))
      where
        -- both in parts of u
        tied : (a b u n m : ℕ) → n ≡ a * u → m ≡ b * u → a * u ≤ b * u → n < m + 1
        tied a b u n m s r h = omega arith

        apart_by : (a b u n m : ℕ) → n ≡ a * u → m ≡ b * u → a * u < b * u → n < m + 0
        apart_by a b u n m s r h = omega arith

        go : (e : ℕ) → e ≤ 1 → t.digits < c * 2 ^ 8 + e → count w h * 2 < c * one + e
        go zero o d = apart_by (t.digits * 2) (c * 2 ^ 9) (2 ^ 140) _ _ scaled half (mul-lt-mul_of_pos_right {m = t.digits * 2} {n = c * 2 ^ 9} (omega arith) (pow_pos 140))
        go (suc zero) o d = tied (t.digits * 2) (c * 2 ^ 9) (2 ^ 140) _ _ scaled half (mul-le-mul_right {m = t.digits * 2} {n = c * 2 ^ 9} (2 ^ 140) (omega arith))
        go (suc (suc e)) o d = absurd (omega arith)

    same_higher : q ≤ w % 2 ^ 31 → c * one + e ≤ count w h * 2
    same_higher l =
        let a : c * 2 ^ 9 + e ≤ t.digits * 2 = omega (arith, digits_are, bits_are w, same, end.bits, l) in
        more (t.digits * 2) (c * 2 ^ 9) (2 ^ 140) _ _ scaled half (pow_pos 140) (mul-le-mul_right {m = c * 2 ^ 9 + e} {n = t.digits * 2} (2 ^ 140) a)
      where
        more : (a b u n m : ℕ) → n ≡ a * u → m ≡ b * u → 0 < u → (b + e) * u ≤ a * u → m + e ≤ n
        more a b u n m s r U h = omega (arith, add-mul b e u, mul-le-mul_right e U, mul_comm e u, one-mul e)

  near : Near (count w h) (p * one) (index w h p end.some)
  near = closest_near (count w h) (p * one) (mul-pos end.some (pow_pos 149))

  middle : c * one ≡ (2 * g + 1) * (p * one)
  middle = mul_assoc (2 * g + 1) p one

  near_end : w % 2 ^ 31 < q → size w h p end.some ≤ greatest
  near_end l =
      let k : index w h p end.some ≤ g = below_half (count w h) (p * one) g (index w h p end.some) e near (mul-pos end.some (pow_pos 149)) end.once end.turn (subst (λ (z : ℕ). count w h * 2 < z + e) middle (go (dec_lt (field w) 141))) in
      le_trans (mul-le-mul_right p k) end.last
    where
      go : Dec (field w < 141) → count w h * 2 < c * one + e
      go (yes d) = lower d
      go (no d) = same_lower (omega (arith, bits_are w, end.bits, end.room, end.once, l)) l

  past_end : q ≤ w % 2 ^ 31 → greatest < size w h p end.some
  past_end l =
      let k : g < index w h p end.some = from_half (count w h) (p * one) g (index w h p end.some) e near (mul-pos end.some (pow_pos 149)) end.once end.turn (subst (λ (z : ℕ). z + e ≤ count w h * 2) middle (go (dec_lt 141 (field w)))) in
      lt_of_lt_of_le end.next (mul-le-mul_right p k)
    where
      go : Dec (141 < field w) → c * one + e ≤ count w h * 2
      go (yes d) = higher d
      go (no d) = same_higher (omega (arith, bits_are w, end.bits, end.least, l, mod-lt w (pow_pos 23))) l

  -- a finite number's answer
  low_off : is_off p (of_bits binary32 w) ≡ ltb greatest (size w h p end.some)
  unfolding is_off
  low_off =
      finitely (finite (of_bits binary32 w)) (counted w h).number _
      ∙ ap (λ (z : ℤ). ltb greatest (nat_abs z)) (whole_is w h p end.some) ∙ ap (ltb greatest) (abs_signed (minus w) (size w h p end.some))
    where
      finitely : (b : Bool) → T b → (t : Bool) → (not b || t) ≡ t
      finitely true u t = refl
      finitely false u t = absurd u

  low_bits : leb q (w % 2 ^ 31) ≡ is_off p (of_bits binary32 w)
  low_bits = go (dec_lt (w % 2 ^ 31) q)
    where
      go : Dec (w % 2 ^ 31 < q) → leb q (w % 2 ^ 31) ≡ is_off p (of_bits binary32 w)
      go (yes l) = lt-leb q (w % 2 ^ 31) l ∙ sym (low_off ∙ le-ltb greatest (size w h p end.some) (near_end l))
      go (no l) = le-leb q (w % 2 ^ 31) (omega arith) ∙ sym (low_off ∙ lt-ltb greatest (size w h p end.some) (past_end (omega arith)))

all_bits : (w p q g e : ℕ) → End p q g e → leb q (w % 2 ^ 31) ≡ is_off p (of_bits binary32 w)
unfolding is_off
all_bits w p q g e end = go (dec_lt (field w) 149)
  where
    high : 149 ≤ field w → leb q (w % 2 ^ 31) ≡ true
    high h = le-leb q (w % 2 ^ 31) (omega (arith, bits_are w, end.bits, end.room, end.once, h))

    unreal : (b t : Bool) → T (not b) → true ≡ (not b || t)
    unreal true t u = absurd u
    unreal false t u = refl

    far : (b t : Bool) → t ≡ true → true ≡ (not b || t)
    far b t e = sym (ap (λ (u : Bool). not b || u) e ∙ or-true (not b))

    past : 149 ≤ field w → Dec (field w < 255) → true ≡ is_off p (of_bits binary32 w)
    past up (yes l) = far (finite (of_bits binary32 w)) _ (lt-ltb greatest _ (beyond w p end.some end.most up (λ e. absurd (omega (arith, e, l)))).1)
    past up (no l) = unreal (finite (of_bits binary32 w)) _ (no_number w (omega arith))

    go : Dec (field w < 149) → leb q (w % 2 ^ 31) ≡ is_off p (of_bits binary32 w)
    go (yes h) = low_bits w p q g e end h
    go (no h) =
        let up : 149 ≤ field w = omega arith in
        high up ∙ past up (dec_lt (field w) 255)

-- ---- the four ends

ends : (p : Pitch) → End (pitch_of p) (end_of p) (last_of p) (even_of p)
unfolding end_of
ends One = record { some = lit< tt; most = lit≤ tt; once = lit≤ tt; turn = refl; last = lit≤ tt; next = lit< tt; least = lit≤ tt; room = lit< tt; bits = refl }
ends Two = record { some = lit< tt; most = lit≤ tt; once = lit≤ tt; turn = refl; last = lit≤ tt; next = lit< tt; least = lit≤ tt; room = lit< tt; bits = refl }
ends Five = record { some = lit< tt; most = lit≤ tt; once = lit≤ tt; turn = refl; last = lit≤ tt; next = lit< tt; least = lit≤ tt; room = lit< tt; bits = refl }
ends Ten = record { some = lit< tt; most = lit≤ tt; once = lit≤ tt; turn = refl; last = lit≤ tt; next = lit< tt; least = lit≤ tt; room = lit< tt; bits = refl }

pub off_bits : (w q : ℕ) (p : Pitch) → q ≡ end_of p → leb q (w % 2 ^ 31) ≡ is_off (pitch_of p) (of_bits binary32 w)
off_bits w q p h = ap (λ (q : ℕ). leb q (w % 2 ^ 31)) h ∙ all_bits w (pitch_of p) (end_of p) (last_of p) (even_of p) (ends p)
