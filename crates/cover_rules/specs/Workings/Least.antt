-- The least weight that the covers of a stretch have, for engines that keep weights alone.
use Rattle.std.specs.Prelude.{ℕ, ◌<◌, ◌≡◌, Bool}
use Rattle.cover_rules.specs.Weights.{Weights}
use Rattle.cover_rules.specs.Covers.{Cover, Allowed, weight}

module _ (𝓦 : Weights) (tri : ℕ → ℕ → ℕ → 𝓦.W) where
  -- a cover among the covers P of i..k weighs w, and none of them is lighter
  pub record LeastOf (i k : ℕ) (P : Cover → Type 0) (w : 𝓦.W) : Type 0 where
    pub cover : Cover
    pub among : P cover
    pub weighs : weight 𝓦 tri i k cover ≡ w
    pub least : (d : Cover) → P d → 𝓦.◌≺◌ (weight 𝓦 tri i k d) w → ⊥

  -- an allowed cover of i..k weighs w, and none is lighter
  abbrev pub Least : (ℕ → ℕ → Bool) → ℕ → ℕ → 𝓦.W → Type 0
  Least barred i k = LeastOf i k (Allowed barred i k)

  -- the triangle on i..k with the apex m and the least weights of its two parts make up w
  pub record MadeAt (barred : ℕ → ℕ → Bool) (i k : ℕ) (w : 𝓦.W) (m : ℕ) : Type 0 where
    pub low : i < m
    pub high : m < k
    pub left : 𝓦.W
    pub right : 𝓦.W
    pub left_least : Least barred i m left
    pub right_least : Least barred m k right
    pub makes : 𝓦.add (tri i k m) (𝓦.add left right) ≡ w
