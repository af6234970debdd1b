-- Rounding twice. A quotient n / d that is first rounded to a whole number of parts, of which 2 * t make one, and then to a whole number,
-- goes where it goes at once, if it lies just halfway between two whole numbers or so far from there that the first rounding does not reach
-- it.
use mathlib.Core.Path.{◌≡◌, refl, sym, ap, ◌∙◌}
use mathlib.Core.Logic.{◌⊎◌, inl, inr, ⊎_elim}
use Prim.Native.Nat.{ℕ, zero, suc, ◌+◌, ◌*◌, ◌%◌, ◌≤◌, ◌<◌}
use native.Mathlib.Nat.{mul_assoc, mul_left_comm, mul_right_comm, add-mul, one-mul, zero-mul, suc-mul, lt_of_mul-lt-mul_right}
use native.Mathlib.Omega.{arith}
use native.Mathlib.Decide.{dec_lt}
use lib.Ieee.Nearest.{closest}
use Rattle.grid_coordinate.proofs.Laws.Nearest.{apart, Near, closest_near, near_only}

pub odd_times : (j u : ℕ) → (2 * j + 1) * u ≡ 2 * (j * u) + u
odd_times j u = add-mul (2 * j) 1 u ∙ ap (λ (x : ℕ). x + 1 * u) (mul_assoc 2 j u) ∙ ap (λ (x : ℕ). 2 * (j * u) + x) (one-mul u)

-- Q is the first rounding. Half of an odd number h is a middle, from which n / d keeps away or in which it lies.
module _ (n d t Q : ℕ) (D : 0 < d) (q : Near (n * (2 * t)) d Q)
    (up : (h : ℕ) → h % 2 ≡ 1 → 2 * n < h * d → 2 * (n * (2 * t)) + d < h * d * (2 * t))
    (down : (h : ℕ) → h % 2 ≡ 1 → h * d < 2 * n → h * d * (2 * t) + d < 2 * (n * (2 * t))) where
  parted : (h : ℕ) → h * d * (2 * t) ≡ 2 * (h * t * d)
  parted h = mul_left_comm (h * d) 2 t ∙ ap (λ (x : ℕ). 2 * x) (mul_right_comm h d t)

  -- so the first rounding lies on the same side of the middle
  under : (h : ℕ) → h % 2 ≡ 1 → 2 * n < h * d → Q < h * t
  under h o l = lt_of_mul-lt-mul_right d (omega (arith, up h o l, parted h, q.half))

  over : (h : ℕ) → h % 2 ≡ 1 → h * d < 2 * n → h * t < Q
  over h o l = lt_of_mul-lt-mul_right d (omega (arith, down h o l, parted h, q.half))

  amid : (h : ℕ) → 2 * n ≡ h * d → Q ≡ h * t
  amid h e =
      let s : n * (2 * t) ≡ h * t * d = mul_left_comm n 2 t ∙ sym (mul_assoc 2 n t) ∙ ap (λ (x : ℕ). x * t) e ∙ mul_right_comm h d t in
      near_only D q (record { half = omega arith; even = λ x. absurd (omega arith) })

  -- and in it where n / d is: both stand alike to the middle above j
  module _ (j : ℕ) where
    abbrev h : ℕ
    h = 2 * j + 1

    at_most : 2 * n ≤ h * d → (Q ≤ h * t) × (Q ≡ h * t → 2 * n ≡ h * d)
    at_most l = go (dec_lt (2 * n) (h * d))
      where
        go : Dec (2 * n < h * d) → (Q ≤ h * t) × (Q ≡ h * t → 2 * n ≡ h * d)
        go (yes s) = let r : Q < h * t = under h (omega arith) s in (omega arith, λ e. absurd (omega (arith, r, e)))
        go (no s) = let e : 2 * n ≡ h * d = omega arith in (omega (arith, amid h e), λ r. e)

    at_least : h * d ≤ 2 * n → (h * t ≤ Q) × (Q ≡ h * t → 2 * n ≡ h * d)
    at_least l = go (dec_lt (h * d) (2 * n))
      where
        go : Dec (h * d < 2 * n) → (h * t ≤ Q) × (Q ≡ h * t → 2 * n ≡ h * d)
        go (yes s) = let r : h * t < Q = over h (omega arith) s in (omega arith, λ e. absurd (omega (arith, r, e)))
        go (no s) = let e : 2 * n ≡ h * d = omega arith in (omega (arith, amid h e), λ r. e)

  near_twice : (k : ℕ) → 0 < t → Near n d k → Near Q (2 * t) k
  near_twice k S p = go k p
    where
      above : (k : ℕ) (p : Near n d k) → (Q ≤ (2 * k + 1) * t) × (Q ≡ (2 * k + 1) * t → 2 * n ≡ (2 * k + 1) * d)
      above k p = at_most k (omega (arith, p.half, odd_times k d))

      go : (k : ℕ) → Near n d k → Near Q (2 * t) k
      go zero p = record {
        half = omega (arith, (above 0 p).0, odd_times 0 t, zero-mul t, zero-mul (2 * t));
        even = λ x. refl;
      }
      go (suc j) p =
          let a = above (suc j) p in
          let b = at_least j (omega (arith, p.half, odd_times j d, suc-mul j d)) in record {
            half = omega (arith, a.0, b.0, odd_times (suc j) t, odd_times j t, suc-mul j t, mul_left_comm (suc j) 2 t);
            even = λ x.
                ⊎_elim
                (λ (e : Q ≡ (2 * suc j + 1) * t). p.even (omega (arith, a.1 e, odd_times (suc j) d)))
                (λ (e : Q ≡ (2 * j + 1) * t). p.even (omega (arith, b.1 e, odd_times j d, suc-mul j d)))
                (side x (dec_lt Q (suc j * (2 * t))));
          }
        where
          side : apart Q (suc j * (2 * t)) * 2 ≡ 2 * t → Dec (Q < suc j * (2 * t)) → (Q ≡ (2 * suc j + 1) * t) ⊎ (Q ≡ (2 * j + 1) * t)
          side x (yes l) = inr (omega (arith, odd_times j t, suc-mul j t, mul_left_comm (suc j) 2 t))
          side x (no l) = inl (omega (arith, odd_times (suc j) t, mul_left_comm (suc j) 2 t))

-- so the two roundings are one
pub closest_twice :
    (n d t : ℕ) → 0 < d → 0 < t
    → ((h : ℕ) → h % 2 ≡ 1 → 2 * n < h * d → 2 * (n * (2 * t)) + d < h * d * (2 * t))
    → ((h : ℕ) → h % 2 ≡ 1 → h * d < 2 * n → h * d * (2 * t) + d < 2 * (n * (2 * t)))
    → closest (closest (n * (2 * t)) d) (2 * t) ≡ closest n d
closest_twice n d t D S up down =
    near_only {m = closest (n * (2 * t)) d} {d = 2 * t} (omega arith) (closest_near (closest (n * (2 * t)) d) (2 * t) (omega arith))
    (near_twice n d t (closest (n * (2 * t)) d) D (closest_near (n * (2 * t)) d D) up down (closest n d) S (closest_near n d D))
