-- What the table tells of a stretch.
use Rattle.std.specs.Prelude.{ℕ, ◌+◌, ◌^◌, ◌<◌, ◌≤◌, ◌≡◌, ◌⊎◌, Bool}
use Rattle.cover_rules.specs.Covers.{NoCover}
use Rattle.cover_rules.specs.Workings.Least.{Least}
use Rattle.cover_weight.specs.Edition.{naturals}

-- more than any cover weighs
unfoldable pub far : ℕ
far = 2 ^ 50

-- Triangles weigh `tri`.
module _ (tri : ℕ → ℕ → ℕ → ℕ) (barred : ℕ → ℕ → Bool) where
  -- w is the least weight of the allowed covers of i..k, or `far` where none is allowed
  pub data Told (i k w : ℕ) : Type 0 where
    some : Least naturals tri barred i k w → Told i k w
    none : NoCover barred i k → w ≡ far → Told i k w

  -- i..k is weighed by way of m: the triangle with that apex and what is told of the two parts
  pub record Way (i k m v : ℕ) : Type 0 where
    pub low : i < m
    pub high : m < k
    pub left : ℕ
    pub right : ℕ
    pub left_told : Told i m left
    pub right_told : Told m k right
    pub makes : v ≡ tri i k m + (left + right)

  -- v is the lowest of `far` and of the ways by the apexes from b on
  pub record Lowest (i k b v : ℕ) : Type 0 where
    pub under : (m w : ℕ) → b ≤ m → Way i k m w → v ≤ w
    pub capped : v ≤ far
    pub reached : (v ≡ far) ⊎ ((m : ℕ) × Way i k m v)
