-- What is told of the parts of a stretch tells the stretch: its least weight is the lowest way, because the parts of an allowed cover
-- are allowed covers of the parts, and no cover weighs as much as `far`.
use Prim.Native.Nat.{ℕ, suc, ◌+◌, ◌<◌, ◌≤◌}
use mathlib.Core.Path.{◌≡◌, refl, sym, ap₂, ◌∙◌, subst}
use mathlib.Core.Logic.{◌⊎◌, inl, inr}
use mathlib.Core.Bool.{Bool, true, false}
use native.Mathlib.Nat.{le_trans, le_refl, le_of_lt, not-le_of_lt, eq-or-lt_of_le}
use native.Mathlib.Omega.{arith}
use Rattle.cover_rules.specs.Covers.{Cover, empty, apex, Covers, weight, Allowed, NoCover}
use Rattle.cover_rules.specs.Workings.Least.{Least, MadeAt}
use Rattle.cover_rules.proofs.Laws.Parts.{allowed_apex, allowed_before, allowed_after}
use Rattle.cover_rules.proofs.Laws.Steps.{none_barred}
use Rattle.cover_rules.proofs.Laws.Least.{least_unique, least_side, least_free}
use Rattle.cover_weight.specs.Edition.{naturals}
use Rattle.cover_weight.proofs.Laws.Naturals.{naturals_lawful}
use Rattle.cover_table.specs.Workings.Told.{far, Told, some, none, Way, Lowest}

not_less : {a b : ℕ} → (a < b → ⊥) → b ≤ a
not_less h = omega arith

module _ {tri : ℕ → ℕ → ℕ → ℕ} {barred : ℕ → ℕ → Bool} where
  -- a side weighs nothing, and a barred stretch is far
  pub told_side : {i k : ℕ} → k ≡ suc i → Told tri barred i k 0
  told_side {i} {k} e = some (least_side naturals naturals_lawful tri barred i k e)

  pub told_barred : {i k : ℕ} → suc i < k → barred i k ≡ true → Told tri barred i k far
  told_barred {i} {k} l e = none (none_barred barred i k l e) refl

  pub told_unique : {i k v w : ℕ} → Told tri barred i k v → Told tri barred i k w → v ≡ w
  told_unique {i} {k} {v} {w} (some p) (some q) = least_unique naturals naturals_lawful tri barred i k v w p q
  told_unique (some p) (none q e) = absurd (q p.cover p.among)
  told_unique (none p d) (some q) = absurd (p q.cover q.among)
  told_unique (none p d) (none q e) = d ∙ sym e

  -- no allowed cover is lighter than what is told
  told_under : {i k w : ℕ} → Told tri barred i k w → (c : Cover) → Allowed barred i k c → w ≤ weight naturals tri i k c
  told_under (some p) c a = not_less (p.least c a)
  told_under (none p e) c a = absurd (p c a)

  -- less than far is told of stretches with an allowed cover only
  pub told_near : {i k w : ℕ} → Told tri barred i k w → w < far → Least naturals tri barred i k w
  told_near (some p) l = p
  told_near (none p e) l = absurd (omega (arith, e))

  -- ---- the ways, one more at a time, from the last apex down

  module _ {i k : ℕ} where
    pub lowest_begins : Lowest tri barred i k k far
    lowest_begins = record {
      under = λ m w l h. let g : m < k = h.high in absurd (omega arith);
      capped = le_refl far;
      reached = inl refl;
    }

    same_way : {m v w : ℕ} → Way tri barred i k m v → Way tri barred i k m w → v ≡ w
    same_way {m} p q =
        p.makes
        ∙ ap₂ (λ (x y : ℕ). tri i k m + (x + y)) (told_unique p.left_told q.left_told) (told_unique p.right_told q.right_told)
        ∙ sym q.makes

    one_more : {v s m : ℕ} → v ≤ s → Way tri barred i k m s → ((n w : ℕ) → suc m ≤ n → Way tri barred i k n w → v ≤ w) → (n w : ℕ) → m ≤ n → Way tri barred i k n w → v ≤ w
    one_more {v} {s} {m} l h f n w g x = go (eq-or-lt_of_le g)
      where
        go : (m ≡ n) ⊎ (m < n) → v ≤ w
        go (inl e) = subst (λ (y : ℕ). v ≤ y) (same_way (subst (λ (y : ℕ). Way tri barred i k y s) e h) x) l
        go (inr y) = f n w y x

    module _ {m s v : ℕ} (h : Way tri barred i k m s) (p : Lowest tri barred i k (suc m) v) where
      pub lowest_take : s < v → Lowest tri barred i k m s
      lowest_take l = record {
        under = one_more (le_refl s) h (λ n w g x. le_trans (le_of_lt l) (p.under n w g x));
        capped = le_trans (le_of_lt l) p.capped;
        reached = inr (m, h);
      }

      pub lowest_keep : v ≤ s → Lowest tri barred i k m v
      lowest_keep l = record { under = one_more l h p.under; capped = p.capped; reached = p.reached }

      -- a way by a part that is far is no lower
      pub lowest_skip : far ≤ s → Lowest tri barred i k m v
      lowest_skip l = lowest_keep (le_trans p.capped l)

  -- ---- the lowest of all ways

  -- No cover of the loop of n weighs as much as far.
  module _ {n : ℕ} (light : (i k : ℕ) (c : Cover) → k < n → Covers i k c → weight naturals tri i k c < far) where
    least_near : {i k w : ℕ} → k < n → Least naturals tri barred i k w → w < far
    least_near {i} {k} l p = subst (λ (x : ℕ). x < far) p.weighs (light i k p.cover l p.among.covers)

    pub told_most : {i k w : ℕ} → k < n → Told tri barred i k w → w ≤ far
    told_most l (some p) = le_of_lt (least_near l p)
    told_most {w} l (none p e) = subst (λ (x : ℕ). w ≤ x) e (le_refl w)

    module _ {i k v : ℕ} (l : k < n) (s : suc i < k) (parts : (m : ℕ) → i < m → m < k → (u w : ℕ) × Told tri barred i m u × Told tri barred m k w)
        (p : Lowest tri barred i k (suc i) v) where
      -- no allowed cover is lighter than the lowest way
      heavier : (c : Cover) → Allowed barred i k c → v ≤ weight naturals tri i k c
      heavier empty a = let e : k ≡ suc i = a.covers in absurd (omega arith)
      heavier (apex m c d) a =
          let lo : i < m = a.covers.0 in
          let hi : m < k = a.covers.1 in
          let q = parts m lo hi in
          let x : q.0 ≤ weight naturals tri i m c = told_under q.2 c (allowed_before barred i k m c d a) in
          let y : q.1 ≤ weight naturals tri m k d = told_under q.3 d (allowed_after barred i k m c d a) in
          let z : v ≤ tri i k m + (q.0 + q.1) =
          p.under m (tri i k m + (q.0 + q.1)) lo (record { low = lo; high = hi; left = q.0; right = q.1; left_told = q.2; right_told = q.3; makes = refl }) in
          let e : weight naturals tri i k (apex m c d) ≡ tri i k m + (weight naturals tri i m c + weight naturals tri m k d) = refl in
          omega arith

      none_lighter : v ≡ far → NoCover barred i k
      none_lighter e c a = omega (arith, heavier c a, light i k c l a.covers)

      by_way : barred i k ≡ false → v < far → (m : ℕ) → Way tri barred i k m v → Least naturals tri barred i k v
      by_way free g m h =
          let e : v ≡ tri i k m + (h.left + h.right) = h.makes in
          let x : Least naturals tri barred i m h.left = told_near h.left_told (omega arith) in
          let y : Least naturals tri barred m k h.right = told_near h.right_told (omega arith) in
          record {
            cover = apex m x.cover y.cover;
            among = allowed_apex barred i k m x.cover y.cover h.low h.high free x.among y.among;
            weighs = ap₂ (λ (a b : ℕ). tri i k m + (a + b)) x.weighs y.weighs ∙ sym e;
            least = λ d a b. not-le_of_lt b (heavier d a);
          }

      pub told_free : barred i k ≡ false → Told tri barred i k v
      told_free free = go (eq-or-lt_of_le p.capped) p.reached
        where
          go : (v ≡ far) ⊎ (v < far) → (v ≡ far) ⊎ ((m : ℕ) × Way tri barred i k m v) → Told tri barred i k v
          go (inl e) r = none (none_lighter e) e
          go (inr g) (inl e) = none (none_lighter e) e
          go (inr g) (inr h) = some (by_way free g h.0 h.1)

    -- ---- the apex of the patch

    module _ {i k m w v : ℕ} (l : k < n) (p : Least naturals tri barred i k w) (h : Way tri barred i k m v) where
      -- what is told of a stretch with an allowed cover is no more than any way
      way_over : w ≤ v
      way_over = go h.left_told h.right_told
        where
          e : v ≡ tri i k m + (h.left + h.right)
          e = h.makes

          go : Told tri barred i m h.left → Told tri barred m k h.right → w ≤ v
          go (none x f) y = omega (arith, e, f, least_near l p)
          go (some x) (none y f) = omega (arith, e, f, least_near l p)
          go (some x) (some y) =
              subst (λ (z : ℕ). w ≤ z) (ap₂ (λ (a b : ℕ). tri i k m + (a + b)) x.weighs y.weighs ∙ sym e)
              (not_less (p.least (apex m x.cover y.cover) (allowed_apex barred i k m x.cover y.cover h.low h.high (least_free naturals naturals_lawful tri barred i k m w p h.low h.high) x.among y.among)))

      -- the way that is no heavier makes it up
      pub made_by : v ≤ w → MadeAt naturals tri barred i k w m
      made_by g =
          let e : v ≡ tri i k m + (h.left + h.right) = h.makes in
          let o : w ≤ v = way_over in
          let near : w < far = least_near l p in
          record {
            low = h.low;
            high = h.high;
            left = h.left;
            right = h.right;
            left_least = told_near h.left_told (omega arith);
            right_least = told_near h.right_told (omega arith);
            makes = omega arith;
          }

  -- and a heavier one does not
  pub not_made_by : {i k m w v : ℕ} → Way tri barred i k m v → w < v → MadeAt naturals tri barred i k w m → ⊥
  not_made_by h g q = omega (arith, h.makes, q.makes, told_unique h.left_told (some q.left_least), told_unique h.right_told (some q.right_least))
