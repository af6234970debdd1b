-- An allowed cover is made of allowed parts and a patch of patches, because a lighter or sooner part would make a lighter or sooner whole.
use Prim.Native.Nat.{ℕ, ◌<◌}
use mathlib.Core.Path.{◌≡◌, refl, ap}
use mathlib.Core.Logic.{inl, inr, ⊎_elim}
use mathlib.Core.Bool.{Bool, false}
use Rattle.cover_rules.specs.Weights.{Weights, Lawful}
use Rattle.cover_rules.specs.Covers.{Cover, apex, weight, Allowed, Patch}
use Rattle.cover_rules.proofs.Laws.Order.{keeps_left}
use Rattle.cover_rules.proofs.Laws.Sooner.{sooner_parts}

module _ (barred : ℕ → ℕ → Bool) where
  -- two allowed parts under a stretch that is not barred make an allowed cover
  pub allowed_apex : (i k m : ℕ) (c d : Cover) → i < m → m < k → barred i k ≡ false
      → Allowed barred i m c → Allowed barred m k d → Allowed barred i k (apex m c d)
  allowed_apex i k m c d lo hi f x y = record {
    covers = (lo, hi, x.covers, y.covers);
    free = λ a b u. ⊎_elim (λ e. rw (e.0, e.1) f) (⊎_elim (x.free a b) (y.free a b)) u;
  }

  module _ (i k m : ℕ) (c d : Cover) (x : Allowed barred i k (apex m c d)) where
    pub allowed_before : Allowed barred i m c
    allowed_before = record { covers = x.covers.2; free = λ a b u. x.free a b (inr (inl u)) }

    pub allowed_after : Allowed barred m k d
    allowed_after = record { covers = x.covers.3; free = λ a b u. x.free a b (inr (inr u)) }

    pub allowed_free : barred i k ≡ false
    allowed_free = x.free i k (inl (refl, refl))

    -- another allowed part may stand for the one before the apex, and for the one after it
    pub other_before : (y : Cover) → Allowed barred i m y → Allowed barred i k (apex m y d)
    other_before y h = allowed_apex i k m y d x.covers.0 x.covers.1 allowed_free h allowed_after

    pub other_after : (y : Cover) → Allowed barred m k y → Allowed barred i k (apex m c y)
    other_after y h = allowed_apex i k m c y x.covers.0 x.covers.1 allowed_free allowed_before h

module _ (𝓦 : Weights) (𝓛 : Lawful 𝓦) (tri : ℕ → ℕ → ℕ → 𝓦.W) where
  open 𝓦 use {W, add, ◌≺◌}

  abbrev wt : ℕ → ℕ → Cover → W
  wt = weight 𝓦 tri

  module _ (i k m : ℕ) (c d y : Cover) where
    -- a lighter part makes a lighter whole
    pub lighter_before : wt i m y ≺ wt i m c → wt i k (apex m y d) ≺ wt i k (apex m c d)
    lighter_before l = 𝓛.keeps _ _ _ (keeps_left 𝓦 𝓛 _ _ _ l)

    pub lighter_after : wt m k y ≺ wt m k d → wt i k (apex m c y) ≺ wt i k (apex m c d)
    lighter_after l = 𝓛.keeps _ _ _ (𝓛.keeps _ _ _ l)

  module _ (barred : ℕ → ℕ → Bool) (i k m : ℕ) (c d : Cover) (p : Patch 𝓦 tri barred i k (apex m c d)) where
    pub patch_before : Patch 𝓦 tri barred i m c
    patch_before = record {
      among = allowed_before barred i k m c d p.among;
      least = λ y h l. p.least (apex m y d) (other_before barred i k m c d p.among y h) (lighter_before i k m c d y l);
      soonest = λ y h e.
          (sooner_parts m c d y d
          (p.soonest (apex m y d) (other_before barred i k m c d p.among y h) (ap (λ (w : W). add (tri i k m) (add w (wt m k d))) e))).0;
    }

    pub patch_after : Patch 𝓦 tri barred m k d
    patch_after = record {
      among = allowed_after barred i k m c d p.among;
      least = λ y h l. p.least (apex m c y) (other_after barred i k m c d p.among y h) (lighter_after i k m c d y l);
      soonest = λ y h e.
          (sooner_parts m c d c y
          (p.soonest (apex m c y) (other_after barred i k m c d p.among y h) (ap (λ (w : W). add (tri i k m) (add (wt i m c) w)) e))).1;
    }
