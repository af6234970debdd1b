-- `closest m d` is the multiple of d nearest to m, of two the even one, and nothing else is: no multiple lies nearer, it lies
-- no further than half of d, and at just half it is even. Nothing here is about floats, and d is any number above 0.
use mathlib.Core.Path.{◌≡◌, refl, ap, ◌∙◌, subst}
use mathlib.Core.Logic.{◌⊎◌, inl, inr, ⊎_elim}
use mathlib.Core.Bool.{not}
use Prim.Native.Nat.{ℕ, zero, suc, ◌+◌, ◌-◌, ◌*◌, ◌/◌, ◌%◌, ◌≤◌, ◌<◌, compare, Ordering}
use native.Mathlib.Nat.{add-mul, mul-sub, mul_comm, suc-mul, zero-mul, one-mul, div-add-mod', mod-lt, mul-le-mul_right}
use native.Mathlib.Omega.{arith}
use native.Mathlib.Decide.{dec_lt}
use lib.Dec.{T, is_le, compare_is_eq, eqb, leb→le, nleb→lt, eqb→eq, eqb_refl}
use lib.Arith.{lt_of_le-ne}
use lib.Ieee.{nearest}
use lib.Ieee.Nearest.{closest}

-- the distance of two numbers
abbrev pub apart : ℕ → ℕ → ℕ
apart a b = (a - b) + (b - a)

-- what `compare` says
abbrev Compared : Ordering → ℕ → ℕ → Type 0
Compared Ordering.lt a b = a < b
Compared Ordering.eq a b = a ≡ b
Compared Ordering.gt a b = b < a

compared : (a b : ℕ) → Compared (compare a b) a b
compared a b = go (compare a b) (leb→le a b) (nleb→lt a b) (eqb→eq a b) (λ (e : a ≡ b). subst (λ (x : ℕ). T (eqb a x)) e (eqb_refl a))
  where
    go : (o : Ordering) → (T (is_le o) → a ≤ b) → (T (not (is_le o)) → b < a) → (T (compare_is_eq o) → a ≡ b) → (a ≡ b → T (compare_is_eq o)) → Compared o a b
    go Ordering.lt h k e n = lt_of_le-ne (h tt) n
    go Ordering.eq h k e n = e tt
    go Ordering.gt h k e n = k tt

-- the next multiple is d further on
pub step : (d : ℕ) {k l : ℕ} → k < l → k * d + d ≤ l * d
step d {k} {l} h = omega (arith, suc-mul k d, mul-le-mul_right d h)

even_or_odd : (q : ℕ) → (q % 2 ≡ 0) ⊎ (q % 2 ≡ 1)
even_or_odd q = go (q % 2) (omega arith)
  where
    go : (r : ℕ) → r < 2 → (r ≡ 0) ⊎ (r ≡ 1)
    go zero h = inl refl
    go (suc zero) h = inr refl
    go (suc (suc r)) h = absurd (omega arith)

-- k is a multiple of d within half of d from m, and even where it is just half
pub record Near (m d k : ℕ) : Type 0 where
  pub half : apart m (k * d) * 2 ≤ d
  pub even : apart m (k * d) * 2 ≡ d → k % 2 ≡ 0

pub closest_near : (m d : ℕ) → 0 < d → Near m d (closest m d)
closest_near m d D = record { half = near (compare (m % d * 2) d) (compared (m % d * 2) d); even = tie (compare (m % d * 2) d) (compared (m % d * 2) d) }
  where
    near : (o : Ordering) → Compared o (m % d * 2) d → apart m (nearest (m / d) o * d) * 2 ≤ d
    near Ordering.lt x = omega (arith, div-add-mod' m d)
    near Ordering.eq x =
        ⊎_elim
        (λ e. let z : m / d % 2 * d ≡ 0 = ap (λ (r : ℕ). r * d) e ∙ zero-mul d in omega (arith, div-add-mod' m d, add-mul (m / d) (m / d % 2) d))
        (λ e. let z : m / d % 2 * d ≡ d = ap (λ (r : ℕ). r * d) e ∙ one-mul d in omega (arith, div-add-mod' m d, add-mul (m / d) (m / d % 2) d))
        (even_or_odd (m / d))
    near Ordering.gt x = omega (arith, div-add-mod' m d, suc-mul (m / d) d, mod-lt m D)

    tie : (o : Ordering) → Compared o (m % d * 2) d → apart m (nearest (m / d) o * d) * 2 ≡ d → nearest (m / d) o % 2 ≡ 0
    tie Ordering.lt x e = absurd (omega (arith, div-add-mod' m d))
    tie Ordering.eq x e = omega arith
    tie Ordering.gt x e = absurd (omega (arith, div-add-mod' m d, suc-mul (m / d) d, mod-lt m D))

-- Two such multiples that differ would lie d apart or more, so just d, each at half of it: one is even and the other is not.
clash : {m d k l : ℕ} → 0 < d → Near m d k → Near m d l → k < l → ⊥
clash {m} {d} {k} {l} D p q h = tied (p.even (omega (arith, p.half, q.half, step d h))) (q.even (omega (arith, p.half, q.half, step d h))) (dec_lt (suc k) l)
  where
    tied : k % 2 ≡ 0 → l % 2 ≡ 0 → Dec (suc k < l) → ⊥
    tied e f (yes g) = omega (arith, p.half, q.half, step d g, suc-mul k d)
    tied e f (no g) = omega arith

pub near_only : {m d k l : ℕ} → 0 < d → Near m d k → Near m d l → k ≡ l
near_only {m} {d} {k} {l} D p q = go (dec_lt k l) (dec_lt l k)
  where
    go : Dec (k < l) → Dec (l < k) → k ≡ l
    go (yes h) r = absurd (clash D p q h)
    go (no h) (yes g) = absurd (clash D q p g)
    go (no h) (no g) = omega arith

-- no multiple lies nearer
pub near_nearest : {m d k : ℕ} → Near m d k → (l : ℕ) → apart m (k * d) ≤ apart m (l * d)
near_nearest {m} {d} {k} p l = go (dec_lt k l) (dec_lt l k)
  where
    go : Dec (k < l) → Dec (l < k) → apart m (k * d) ≤ apart m (l * d)
    go (yes h) r = omega (arith, p.half, step d h)
    go (no h) (yes g) = omega (arith, p.half, step d g)
    go (no h) (no g) = let e : k ≡ l = omega arith in omega (arith, ap (λ (x : ℕ). x * d) e)

-- so it lies no further than 0 does
pub near_own : {m d k : ℕ} → Near m d k → apart m (k * d) ≤ m
near_own {m} {d} {k} p = omega (arith, near_nearest p 0, zero-mul d)

-- and it is not above a multiple that m does not pass
pub near_le : {m d k q : ℕ} → 0 < d → Near m d k → m ≤ q * d → k ≤ q
near_le {m} {d} {k} {q} D p h = go (dec_lt q k)
  where
    go : Dec (q < k) → k ≤ q
    go (yes g) = absurd (omega (arith, p.half, step d g))
    go (no g) = omega arith

pub sub_mul : (a b t : ℕ) → (a - b) * t ≡ a * t - b * t
sub_mul a b t = mul_comm (a - b) t ∙ mul-sub t a b ∙ ap (λ (x : ℕ). x - t * b) (mul_comm t a) ∙ ap (λ (x : ℕ). a * t - x) (mul_comm t b)

pub apart_scale : (a b t : ℕ) → apart a b * t ≡ apart (a * t) (b * t)
apart_scale a b t = add-mul (a - b) (b - a) t ∙ ap (λ (x : ℕ). x + (b - a) * t) (sub_mul a b t) ∙ ap (λ (x : ℕ). a * t - b * t + x) (sub_mul b a t)

-- Counted from an even multiple upwards or downwards, the nearest is the same.
module _ {m d k : ℕ} (q : ℕ) (even : q % 2 ≡ 0) (p : Near m d k) where
  near_up : Near (q * d + m) d (q + k)
  near_up =
      let e : apart (q * d + m) ((q + k) * d) ≡ apart m (k * d) = omega (arith, add-mul q k d) in
      record { half = omega (arith, p.half); even = λ t. let z = p.even (omega (arith, t)) in omega (arith, z) }

  near_down : m ≤ q * d → k ≤ q → Near (q * d - m) d (q - k)
  near_down h l =
      let e : apart (q * d - m) ((q - k) * d) ≡ apart m (k * d) = omega (arith, sub_mul q k d, mul-le-mul_right d l) in
      record { half = omega (arith, p.half); even = λ t. let z = p.even (omega (arith, t)) in omega (arith, z) }

pub closest_up : (q m d : ℕ) → q % 2 ≡ 0 → 0 < d → closest (q * d + m) d ≡ q + closest m d
closest_up q m d even D = near_only D (closest_near (q * d + m) d D) (near_up q even (closest_near m d D))

pub closest_down : (q m d : ℕ) → q % 2 ≡ 0 → 0 < d → m ≤ q * d → closest (q * d - m) d ≡ q - closest m d
closest_down q m d even D h = near_only D (closest_near (q * d - m) d D) (near_down q even (closest_near m d D) h (near_le D (closest_near m d D) h))

pub closest_zero : (d : ℕ) → 0 < d → closest 0 d ≡ 0
closest_zero d D = let h : closest 0 d ≤ 0 = near_le D (closest_near 0 d D) (omega arith) in omega arith
