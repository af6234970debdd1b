-- There is one best cover at most: two of them weigh the same, since neither is lighter, and then each comes no later than the other.
use Prim.Native.Nat.{ℕ}
use mathlib.Core.Path.{◌≡◌, sym}
use mathlib.Core.Bool.{Bool}
use Rattle.cover_rules.specs.Weights.{Weights, Lawful}
use Rattle.cover_rules.specs.Covers.{Cover, weight, Allowed, Best, Patch}
use Rattle.cover_rules.proofs.Laws.Order.{antisym}
use Rattle.cover_rules.proofs.Laws.Sooner.{sooner_antisym}

module _ (𝓦 : Weights) (𝓛 : Lawful 𝓦) (tri : ℕ → ℕ → ℕ → 𝓦.W) where
  module _ (i k : ℕ) (P : Cover → Type 0) (c d : Cover) (p : Best 𝓦 tri i k P c) (q : Best 𝓦 tri i k P d) where
    pub best_weigh_same : weight 𝓦 tri i k c ≡ weight 𝓦 tri i k d
    best_weigh_same = antisym 𝓦 𝓛 (weight 𝓦 tri i k c) (weight 𝓦 tri i k d) (p.least d q.among) (q.least c p.among)

    -- any two best covers among the same ones are equal
    pub unique : c ≡ d
    unique =
        sooner_antisym c d
        (p.soonest d q.among (sym best_weigh_same))
        (q.soonest c p.among best_weigh_same)

  -- so a stretch has one patch at most
  pub patch_unique : (barred : ℕ → ℕ → Bool) (i k : ℕ) (c d : Cover) → Patch 𝓦 tri barred i k c → Patch 𝓦 tri barred i k d → c ≡ d
  patch_unique barred i k c d p q = unique i k (Allowed barred i k) c d p q
