-- The stretches that a cover lays triangles on lie within i..k, are longer than a side and do not cross, since each lies on one side
-- of the apex or is i..k itself; and as many are laid as can be: a stretch that none of them crosses is one of them.
use Prim.Native.Nat.{ℕ, suc, ◌<◌, ◌≤◌, ◌+◌}
use mathlib.Core.Path.{◌≡◌, refl, sym}
use mathlib.Core.Logic.{◌⊎◌, inl, inr}
use native.Mathlib.Omega.{arith}
use native.Mathlib.Decide.{dec_le, ℕ_discrete}
use Rattle.cover_rules.specs.Covers.{Cover, empty, apex, Covers, Uses}

pub uses_in : (i k : ℕ) (c : Cover) (a b : ℕ) → Covers i k c → Uses i k c a b → (i ≤ a) × (a + 1 < b) × (b ≤ k)
uses_in i k empty a b h u = absurd u
uses_in i k (apex m c d) a b h (inl e) = let l : i < m = h.0 in let r : m < k = h.1 in omega arith
uses_in i k (apex m c d) a b h (inr (inl u)) = let r : m < k = h.1 in omega (arith, uses_in i m c a b h.2 u)
uses_in i k (apex m c d) a b h (inr (inr u)) = let l : i < m = h.0 in omega (arith, uses_in m k d a b h.3 u)

-- the stretches a..b and p..q cross: just one end of each lies strictly within the other
abbrev pub Cross : ℕ → ℕ → ℕ → ℕ → Type 0
Cross a b p q = ((p < a) × (a < q) × (q < b)) ⊎ ((a < p) × (p < b) × (b < q))

pub uncrossed : (i k : ℕ) (c : Cover) (a b p q : ℕ) → Covers i k c → Uses i k c a b → Uses i k c p q → Cross a b p q → ⊥
uncrossed i k empty a b p q h u v x = u
uncrossed i k (apex m c d) a b p q h (inl u) (inl v) (inl x) = omega arith
uncrossed i k (apex m c d) a b p q h (inl u) (inl v) (inr x) = omega arith
uncrossed i k (apex m c d) a b p q h (inl u) (inr v) (inl x) = omega (arith, uses_in i k (apex m c d) p q h (inr v))
uncrossed i k (apex m c d) a b p q h (inl u) (inr v) (inr x) = omega (arith, uses_in i k (apex m c d) p q h (inr v))
uncrossed i k (apex m c d) a b p q h (inr u) (inl v) (inl x) = omega (arith, uses_in i k (apex m c d) a b h (inr u))
uncrossed i k (apex m c d) a b p q h (inr u) (inl v) (inr x) = omega (arith, uses_in i k (apex m c d) a b h (inr u))
uncrossed i k (apex m c d) a b p q h (inr (inl u)) (inr (inl v)) x = uncrossed i m c a b p q h.2 u v x
uncrossed i k (apex m c d) a b p q h (inr (inr u)) (inr (inr v)) x = uncrossed m k d a b p q h.3 u v x
uncrossed i k (apex m c d) a b p q h (inr (inl u)) (inr (inr v)) (inl x) = omega (arith, uses_in i m c a b h.2 u, uses_in m k d p q h.3 v)
uncrossed i k (apex m c d) a b p q h (inr (inl u)) (inr (inr v)) (inr x) = omega (arith, uses_in i m c a b h.2 u, uses_in m k d p q h.3 v)
uncrossed i k (apex m c d) a b p q h (inr (inr u)) (inr (inl v)) (inl x) = omega (arith, uses_in m k d a b h.3 u, uses_in i m c p q h.2 v)
uncrossed i k (apex m c d) a b p q h (inr (inr u)) (inr (inl v)) (inr x) = omega (arith, uses_in m k d a b h.3 u, uses_in i m c p q h.2 v)

-- a stretch longer than a side has a triangle on it
pub outermost_used : (i k : ℕ) (c : Cover) → Covers i k c → i + 1 < k → Uses i k c i k
outermost_used i k empty h l = let e : k ≡ suc i = h in absurd (omega arith)
outermost_used i k (apex m c d) h l = inl (refl, refl)

pub crossed_or_used : (i k : ℕ) (c : Cover) (a b : ℕ) → Covers i k c → i ≤ a → a + 1 < b → b ≤ k
    → ((p q : ℕ) → Uses i k c p q → Cross a b p q → ⊥) → Uses i k c a b
crossed_or_used i k empty a b h l s r n = let e : k ≡ suc i = h in absurd (omega arith)
crossed_or_used i k (apex m c d) a b h l s r n =
    go (dec_le m a) (dec_le b m) (ℕ_discrete i a) (ℕ_discrete b k)
    (λ x. crossed_or_used m k d a b h.3 x s r (λ p q u. n p q (inr (inr u))))
    (λ y. crossed_or_used i m c a b h.2 l s y (λ p q u. n p q (inr (inl u))))
  where
    lo : i < m
    lo = h.0

    hi : m < k
    hi = h.1

    go : Dec (m ≤ a) → Dec (b ≤ m) → Dec (i ≡ a) → Dec (b ≡ k) → (m ≤ a → Uses m k d a b) → (b ≤ m → Uses i m c a b)
        → Uses i k (apex m c d) a b
    go (yes x) y z w f g = inr (inr (f x))
    go (no x) (yes y) z w f g = inr (inl (g y))
    go (no x) (no y) (yes z) (yes w) f g = inl (sym z, w)
    go (no x) (no y) (no z) w f g = absurd (n i m (inr (inl (outermost_used i m c h.2 (omega arith)))) (inl (omega arith)))
    go (no x) (no y) (yes z) (no w) f g = absurd (n m k (inr (inr (outermost_used m k d h.3 (omega arith)))) (inr (omega arith)))
