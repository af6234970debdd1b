-- What a cover weighs at most: as many triangles as its stretch has positions inside, each at most the heaviest.
use mathlib.Core.Path.{◌≡◌, sym, ap, ◌∙◌, subst}
use Prim.Native.Nat.{ℕ, suc, ◌+◌, ◌-◌, ◌*◌, ◌^◌, ◌≤◌, ◌<◌, zero-le}
use native.Mathlib.Nat.{le_trans, le_of_eq, lt_of_le_of_lt, mul-le-mul, le_refl, add-mul, suc-mul}
use native.Mathlib.Omega.{arith}
use lib.Dec.{lit<}
use Rattle.base_limits.specs.Limits.{longest}
use Rattle.cover_rules.specs.Covers.{Cover, empty, apex, Covers, weight}
use Rattle.cover_weight.specs.declared.Point.{Point}
use Rattle.cover_weight.specs.Weight.{OnGrid}
use Rattle.cover_weight.specs.Edition.{naturals, tri_of}
use Rattle.cover_weight.proofs.Laws.Bounds.{heaviest, weight_most}

-- the triangle on i..k, then what lies before its apex and what lies after it
joined : {i k m t v w : ℕ} (most : ℕ) → i < m → m < k → t ≤ most → v ≤ (m - i - 1) * most → w ≤ (k - m - 1) * most → t + (v + w) ≤ (k - i - 1) * most
joined {i} {k} {m} {t} {v} {w} most h g a b c = subst (λ (x : ℕ). t + (v + w) ≤ x * most) inside (le_trans summed (le_of_eq (sym taken)))
  where
    inside : suc (m - i - 1 + (k - m - 1)) ≡ k - i - 1
    inside = omega arith

    taken : suc (m - i - 1 + (k - m - 1)) * most ≡ (m - i - 1) * most + (k - m - 1) * most + most
    taken = suc-mul (m - i - 1 + (k - m - 1)) most ∙ ap (λ (x : ℕ). x + most) (add-mul (m - i - 1) (k - m - 1) most)

    summed : t + (v + w) ≤ (m - i - 1) * most + (k - m - 1) * most + most
    summed = omega arith

-- for any weights of triangles with a heaviest one
pub total_most :
    (tri : ℕ → ℕ → ℕ → ℕ) (most n : ℕ)
    → ((i k m : ℕ) → i < m → m < k → k < n → tri i k m ≤ most)
    → (i k : ℕ)
    → k < n
    → (c : Cover)
    → Covers i k c
    → weight naturals tri i k c ≤ (k - i - 1) * most
total_most tri most n bound i k h empty v = zero-le
total_most tri most n bound i k h (apex m c d) v =
    joined most v.0 v.1 (bound i k m v.0 v.1 h) (total_most tri most n bound i m (omega arith) c v.2) (total_most tri most n bound m k h d v.3)

-- for a loop of n points of the grid
module _ (at : ℕ → Point) (n : ℕ) (near : (j : ℕ) → j < n → OnGrid (at j)) (i k : ℕ) (h : k < n) (c : Cover) (v : Covers i k c) where
  pub cover_most : weight naturals (tri_of at) i k c ≤ (k - i - 1) * heaviest
  cover_most = total_most (tri_of at) heaviest n each i k h c v
    where
      each : (i k m : ℕ) → i < m → m < k → k < n → tri_of at i k m ≤ heaviest
      each i k m a b h = weight_most (at i) (at k) (at m) (near i (omega arith), near k h, near m (omega arith))

  pub cover_below : n ≤ longest → weight naturals (tri_of at) i k c < 2 ^ 41
  cover_below l = lt_of_le_of_lt (le_trans cover_most (mul-le-mul short (le_refl _))) (lit< tt)
    where
      short : k - i - 1 ≤ longest
      short = omega arith
