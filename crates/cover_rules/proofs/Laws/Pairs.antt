-- How often a pair of positions stands in a list: the Bool tests of its two ends at each place, summed, so that two lists joined
-- count as their sum.
use Prim.Native.Nat.{ℕ, ◌<◌, ◌+◌}
use mathlib.Core.Path.{◌≡◌, ap}
use mathlib.Core.Bool.{Bool, true, false, ◌&&◌, and_comm}
use mathlib.Core.List.{List, [], ◌∷◌, ◌++◌}
use native.Mathlib.Omega.{arith}
use native.Mathlib.Decide.{ℕ_discrete}
use lib.Dec.{eqb}
use borrow.Author.Tests.{eq-eqb, ne_eqb}

-- two positions in order
pub record Pair : Type 0 where
  pub from : ℕ
  pub to : ℕ

abbrev pub pair : ℕ → ℕ → Pair
pair a b = record { from = a; to = b }

-- 1 where the test holds, and 0 where not
unfoldable pub one : Bool → ℕ
one true = 1
one false = 0

-- 1 where the pair p, q is the pair a, b, and 0 where not
unfoldable pub hit : ℕ → ℕ → ℕ → ℕ → ℕ
hit a b p q = one (eqb p a && eqb q b)

-- how often a, b stands in the list
unfoldable pub count : ℕ → ℕ → List Pair → ℕ
count a b [] = 0
count a b (x ∷ l) = hit a b x.from x.to + count a b l

pub count_append : (a b : ℕ) (l r : List Pair) → count a b (l ++ r) ≡ count a b l + count a b r
unfolding count
count_append a b [] r = omega arith
count_append a b (x ∷ l) r = omega (arith, count_append a b l r)

pub hit_same : (a b p q : ℕ) → p ≡ a → q ≡ b → hit a b p q ≡ 1
unfolding hit one
hit_same a b p q e f = rw (eq-eqb p a e, eq-eqb q b f)

pub hit_other : (a b p q : ℕ) → ((p ≡ a) × (q ≡ b) → ⊥) → hit a b p q ≡ 0
unfolding hit one
hit_other a b p q n = go (ℕ_discrete p a) (ℕ_discrete q b)
  where
    go : Dec (p ≡ a) → Dec (q ≡ b) → hit a b p q ≡ 0
    go (yes e) (yes f) = absurd (n (e, f))
    go (no e) f = rw (ne_eqb p a e)
    go (yes e) (no f) = rw (eq-eqb p a e, ne_eqb q b f)

pub hit_of : (a b p q : ℕ) → 0 < hit a b p q → (p ≡ a) × (q ≡ b)
hit_of a b p q h = go (ℕ_discrete p a) (ℕ_discrete q b)
  where
    go : Dec (p ≡ a) → Dec (q ≡ b) → (p ≡ a) × (q ≡ b)
    go (yes e) (yes f) = (e, f)
    go (no e) f = absurd (omega (arith, hit_other a b p q (λ x. e x.0)))
    go (yes e) (no f) = absurd (omega (arith, hit_other a b p q (λ x. f x.1)))

-- the same pair turned round
pub hit_turned : (a b p q : ℕ) → hit a b p q ≡ hit b a q p
unfolding hit
hit_turned a b p q = ap one (and_comm (eqb p a) (eqb q b))
