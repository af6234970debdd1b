-- The least weight of a stretch tells its patch: the smallest apex at which the triangle and the least weights of the two parts
-- make it up is the patch's, because the parts of a cover of the least weight have the least weights of their stretches.
use Prim.Native.Nat.{ℕ, suc, ◌<◌}
use mathlib.Core.Path.{◌≡◌, refl, ◌∙◌, ap}
use mathlib.Core.Logic.{inl}
use mathlib.Core.Bool.{Bool, false}
use native.Mathlib.Omega.{arith}
use native.Mathlib.Decide.{dec_lt}
use Rattle.cover_rules.specs.Weights.{Weights, Lawful}
use Rattle.cover_rules.specs.Covers.{Cover, empty, apex, Sooner, weight, Allowed, Best, Patch}
use Rattle.cover_rules.specs.Workings.Least.{Least, MadeAt}
use Rattle.cover_rules.proofs.Laws.Order.{antisym}
use Rattle.cover_rules.proofs.Laws.Parts.{allowed_before, allowed_after, allowed_free, other_before, other_after, lighter_before, lighter_after}
use Rattle.cover_rules.proofs.Laws.Steps.{AllowedAt, apex_best, patch_side}

module _ (𝓦 : Weights) (𝓛 : Lawful 𝓦) (tri : ℕ → ℕ → ℕ → 𝓦.W) (barred : ℕ → ℕ → Bool) where
  open 𝓦 use {W, none, add, ◌≺◌}

  abbrev wt : ℕ → ℕ → Cover → W
  wt = weight 𝓦 tri

  pub least_unique : (i k : ℕ) (v w : W) → Least 𝓦 tri barred i k v → Least 𝓦 tri barred i k w → v ≡ w
  least_unique i k v w p q =
      antisym 𝓦 𝓛 v w
      (λ l. p.least q.cover q.among (rw q.weighs l))
      (λ l. q.least p.cover p.among (rw p.weighs l))

  -- a cover that no allowed one is lighter than has the least weight, as a patch does
  pub least_of : (i k : ℕ) (c : Cover) → Allowed barred i k c → ((d : Cover) → Allowed barred i k d → wt i k d ≺ wt i k c → ⊥)
      → Least 𝓦 tri barred i k (wt i k c)
  least_of i k c a l = record { cover = c; among = a; weighs = refl; least = l }

  pub patch_least : (i k : ℕ) (c : Cover) → Patch 𝓦 tri barred i k c → Least 𝓦 tri barred i k (wt i k c)
  patch_least i k c p = least_of i k c p.among p.least

  -- a side weighs nothing
  pub least_side : (i k : ℕ) → k ≡ suc i → Least 𝓦 tri barred i k none
  least_side i k e = patch_least i k empty (patch_side 𝓦 𝓛 tri barred i k e)

  pub patch_weighs : (i k : ℕ) (w : W) (c : Cover) → Least 𝓦 tri barred i k w → Patch 𝓦 tri barred i k c → wt i k c ≡ w
  patch_weighs i k w c q p = least_unique i k (wt i k c) w (patch_least i k c p) q

  -- the parts of a cover of the least weight have the least weights of their stretches
  module _ (i k m : ℕ) (c d : Cover) (a : Allowed barred i k (apex m c d)) (l : (x : Cover) → Allowed barred i k x → wt i k x ≺ wt i k (apex m c d) → ⊥) where
    pub least_before : Least 𝓦 tri barred i m (wt i m c)
    least_before =
        least_of i m c (allowed_before barred i k m c d a)
        (λ y h g. l (apex m y d) (other_before barred i k m c d a y h) (lighter_before 𝓦 𝓛 tri i k m c d y g))

    pub least_after : Least 𝓦 tri barred m k (wt m k d)
    least_after =
        least_of m k d (allowed_after barred i k m c d a)
        (λ y h g. l (apex m c y) (other_after barred i k m c d a y h) (lighter_after 𝓦 𝓛 tri i k m c d y g))

  -- an allowed cover of the least weight makes it up at its apex
  pub made_at : (i k : ℕ) (w : W) → Least 𝓦 tri barred i k w → (m : ℕ) (c d : Cover) → Allowed barred i k (apex m c d)
      → wt i k (apex m c d) ≡ w → MadeAt 𝓦 tri barred i k w m
  made_at i k w q m c d a e =
      let l : (x : Cover) → Allowed barred i k x → wt i k x ≺ wt i k (apex m c d) → ⊥ = λ x h g. q.least x h (rw e at g) in
      record {
        low = a.covers.0;
        high = a.covers.1;
        left = wt i m c;
        right = wt m k d;
        left_least = least_before i k m c d a l;
        right_least = least_after i k m c d a l;
        makes = e;
      }

  -- so there is such an apex, wherever the stretch is longer than a side
  pub some_apex : (i k : ℕ) (w : W) → suc i < k → Least 𝓦 tri barred i k w → (m : ℕ) × MadeAt 𝓦 tri barred i k w m
  some_apex i k w s q = go q.cover q.among q.weighs
    where
      go : (c : Cover) → Allowed barred i k c → wt i k c ≡ w → (m : ℕ) × MadeAt 𝓦 tri barred i k w m
      go empty a e = let f : k ≡ suc i = a.covers in absurd (omega arith)
      go (apex m c d) a e = (m, made_at i k w q m c d a e)

  -- a stretch with an allowed cover that is no side is not barred
  pub least_free : (i k m : ℕ) (w : W) → Least 𝓦 tri barred i k w → i < m → m < k → barred i k ≡ false
  least_free i k m w q lo hi = go q.cover q.among
    where
      go : (c : Cover) → Allowed barred i k c → barred i k ≡ false
      go empty a = let f : k ≡ suc i = a.covers in absurd (omega arith)
      go (apex n c d) a = allowed_free barred i k n c d a

  -- the smallest such apex, with the patches of its parts, is the patch
  pub least_apex : (i k : ℕ) (w : W) (m : ℕ) → Least 𝓦 tri barred i k w → MadeAt 𝓦 tri barred i k w m
      → ((n : ℕ) → n < m → MadeAt 𝓦 tri barred i k w n → ⊥)
      → (c d : Cover) → Patch 𝓦 tri barred i m c → Patch 𝓦 tri barred m k d → Patch 𝓦 tri barred i k (apex m c d)
  least_apex i k w m q a first c d p r = record {
    among = best.among.0;
    least = λ x h l. q.least x h (rw weighs at l);
    soonest = sooner;
  }
    where
      best : Best 𝓦 tri i k (AllowedAt barred i k m) (apex m c d)
      best = apex_best 𝓦 𝓛 tri barred i k m a.low a.high (least_free i k m w q a.low a.high) c d p r

      weighs : wt i k (apex m c d) ≡ w
      weighs =
          ap (λ (u : W). add (tri i k m) (add u (wt m k d))) (patch_weighs i m a.left c a.left_least p)
          ∙ (ap (λ (v : W). add (tri i k m) (add a.left v)) (patch_weighs m k a.right d a.right_least r) ∙ a.makes)

      sooner : (x : Cover) → Allowed barred i k x → wt i k x ≡ wt i k (apex m c d) → Sooner (apex m c d) x
      sooner empty h e = let lo : i < m = a.low in let hi : m < k = a.high in let f : k ≡ suc i = h.covers in absurd (omega arith)
      sooner (apex n y z) h e = go (dec_lt m n) (dec_lt n m)
        where
          go : Dec (m < n) → Dec (n < m) → Sooner (apex m c d) (apex n y z)
          go (yes l) g = inl l
          go (no l) (yes g) = absurd (first n g (made_at i k w q n y z h (e ∙ weighs)))
          go (no l) (no g) = let s : n ≡ m = omega arith in best.soonest (apex n y z) (h, s) e
