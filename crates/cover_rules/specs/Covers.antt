-- Cover. Covers of a stretch i..k of a loop by positions, which of them are allowed, and which one the patcher takes.
use Rattle.std.specs.Prelude.{ℕ, suc, ◌-◌, ◌<◌, ◌≡◌, ◌⊎◌, Bool, false, List, [], ◌∷◌, ◌++◌, length, get_or}
use Rattle.surface_rules.specs.Threes.{Three, three}
use Rattle.cover_rules.specs.Weights.{Weights}

-- the empty cover, or an apex m with a cover before it and one after it
pub data Cover : Type 0 where
  empty : Cover
  apex : ℕ → Cover → Cover → Cover

-- "The stretch i..k with k = i+1 has the empty cover. Otherwise choose m with i < m < k: the triangle with corners (vi, vk, vm)
-- and a cover of i..m and of m..k."
abbrev pub Covers : ℕ → ℕ → Cover → Type 0
Covers i k empty = k ≡ suc i
Covers i k (apex m c d) = (i < m) × (m < k) × Covers i m c × Covers m k d

-- a triangle by the positions of its corners
abbrev pub Triangle : Type 0
Triangle = Three

-- the triangle on the stretch i..k with the apex m
abbrev pub on : ℕ → ℕ → ℕ → Triangle
on i k m = three i k m

-- "It lists the triangle, then i..m, then m..k."
abbrev pub triangles : ℕ → ℕ → Cover → List Triangle
triangles i k empty = []
triangles i k (apex m c d) = on i k m ∷ (triangles i m c ++ triangles m k d)

-- the corners of the triangles one after the other, a position's vertex for each
abbrev pub corners_of : (ℕ → ℕ) → List Triangle → List ℕ
corners_of vertex [] = []
corners_of vertex (t ∷ ts) = vertex t.first ∷ vertex t.second ∷ vertex t.third ∷ corners_of vertex ts

-- the vertex at a position of the ring
abbrev pub vertex_of : List ℕ → ℕ → ℕ
vertex_of ring j = get_or ring j 0

-- the corners of the cover c of the loop with this ring, in the order of its listing
abbrev pub patch_of : List ℕ → Cover → List ℕ
patch_of ring c = corners_of (vertex_of ring) (triangles 0 (length ring - 1) c)

-- the cover lays a triangle on the stretch a..b
abbrev pub Uses : ℕ → ℕ → Cover → ℕ → ℕ → Type 0
Uses i k empty a b = ⊥
Uses i k (apex m c d) a b = ((a ≡ i) × (b ≡ k)) ⊎ (Uses i m c a b ⊎ Uses m k d a b)

-- "among equals, in each stretch from the outermost inwards, the smallest m": c comes no later than d
abbrev pub Sooner : Cover → Cover → Type 0
Sooner empty d = Unit {0}
Sooner (apex m c₁ c₂) empty = ⊥
Sooner (apex m c₁ c₂) (apex n d₁ d₂) = (m < n) ⊎ ((m ≡ n) × Sooner c₁ d₁ × Sooner c₂ d₂)

-- Which pairs of positions are barred: true only of diagonals, so never of the loop's sides i..i+1 and 0..n-1.
module _ (barred : ℕ → ℕ → Bool) where
  -- "A cover without a barred diagonal is called allowed."
  pub record Allowed (i k : ℕ) (c : Cover) : Type 0 where
    pub covers : Covers i k c
    pub free : (a b : ℕ) → Uses i k c a b → barred a b ≡ false

  -- no allowed cover exists
  abbrev pub NoCover : ℕ → ℕ → Type 0
  NoCover i k = (c : Cover) → Allowed i k c → ⊥

-- What the triangle on i..k with the apex m weighs.
module _ (𝓦 : Weights) (tri : ℕ → ℕ → ℕ → 𝓦.W) where
  abbrev pub weight : ℕ → ℕ → Cover → 𝓦.W
  weight i k empty = 𝓦.none
  weight i k (apex m c d) = 𝓦.add (tri i k m) (𝓦.add (weight i m c) (weight m k d))

  -- c is the one to take among the covers P of i..k: none is lighter, and it comes sooner than those that are as light
  pub record Best (i k : ℕ) (P : Cover → Type 0) (c : Cover) : Type 0 where
    pub among : P c
    pub least : (d : Cover) → P d → 𝓦.◌≺◌ (weight i k d) (weight i k c) → ⊥
    pub soonest : (d : Cover) → P d → weight i k d ≡ weight i k c → Sooner c d

  -- "Of covers without a barred diagonal the patcher takes the least total weight; among equals ... the smallest m."
  abbrev pub Patch : (ℕ → ℕ → Bool) → ℕ → ℕ → Cover → Type 0
  Patch barred i k = Best i k (Allowed barred i k)
