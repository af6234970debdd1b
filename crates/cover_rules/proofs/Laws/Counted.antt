-- How many triangles a cover of i..k has, k - i - 1, each on a stretch of its own: an apex splits the count k - i - 1 into the counts
-- of its two parts and one for itself, and the two parts have no stretch in common.
use Prim.Native.Nat.{ℕ, suc, ◌<◌, ◌+◌, ◌-◌}
use mathlib.Core.Path.{◌≡◌, refl, sym}
use mathlib.Core.Logic.{inl, inr}
use mathlib.Core.List.{List, [], ◌∷◌, ◌++◌}
use native.Mathlib.Omega.{arith}
use native.Mathlib.Decide.{dec_lt}
use lib.ListN.{length, length-append}
use Rattle.cover_rules.specs.Covers.{Cover, empty, apex, Covers, Uses, triangles}
use Rattle.cover_rules.proofs.Laws.Chords.{uses_in}
use Rattle.cover_rules.proofs.Laws.Pairs.{Pair, pair, count, hit, count_append, hit_same, hit_other, hit_of}

-- a stretch that has a cover goes forward
pub covers_forward : (i k : ℕ) (c : Cover) → Covers i k c → i < k
covers_forward i k empty h = let e : k ≡ suc i = h in omega arith
covers_forward i k (apex m c d) h = let l : i < m = h.0 in let r : m < k = h.1 in omega arith

triangles_and_more : (i k : ℕ) (c : Cover) → Covers i k c → length (triangles i k c) + i + 1 ≡ k
triangles_and_more i k empty h = let e : k ≡ suc i = h in omega arith
triangles_and_more i k (apex m c d) h =
    omega (arith, length-append (triangles i m c) (triangles m k d), triangles_and_more i m c h.2, triangles_and_more m k d h.3)

pub triangles_length : (i k : ℕ) (c : Cover) → Covers i k c → length (triangles i k c) ≡ k - i - 1
triangles_length i k c h = omega (arith, triangles_and_more i k c h)

-- a loop of n edges is covered by n - 2 triangles
pub loop_triangles : (n : ℕ) (c : Cover) → Covers 0 (n - 1) c → length (triangles 0 (n - 1) c) ≡ n - 2
loop_triangles n c h = omega (arith, triangles_and_more 0 (n - 1) c h)

-- the stretches that the cover lays its triangles on, in the triangles' order
abbrev pub stretches : ℕ → ℕ → Cover → List Pair
stretches i k empty = []
stretches i k (apex m c d) = pair i k ∷ (stretches i m c ++ stretches m k d)

-- those within the outermost
abbrev pub inner : ℕ → ℕ → Cover → List Pair
inner i k empty = []
inner i k (apex m c d) = stretches i m c ++ stretches m k d

stretches_and_more : (i k : ℕ) (c : Cover) → Covers i k c → length (stretches i k c) + i + 1 ≡ k
stretches_and_more i k empty h = let e : k ≡ suc i = h in omega arith
stretches_and_more i k (apex m c d) h =
    omega (arith, length-append (stretches i m c) (stretches m k d), stretches_and_more i m c h.2, stretches_and_more m k d h.3)

pub stretches_length : (i k : ℕ) (c : Cover) → Covers i k c → length (stretches i k c) ≡ k - i - 1
stretches_length i k c h = omega (arith, stretches_and_more i k c h)

-- the outermost comes first
pub outermost_first : (i k : ℕ) (c : Cover) → Covers i k c → suc i < k → stretches i k c ≡ pair i k ∷ inner i k c
outermost_first i k empty h l = let e : k ≡ suc i = h in absurd (omega arith)
outermost_first i k (apex m c d) h l = refl

pub inner_length : (i k : ℕ) (c : Cover) → Covers i k c → length (inner i k c) ≡ k - i - 2
inner_length i k empty h = let e : k ≡ suc i = h in omega arith
inner_length i k (apex m c d) h = omega (arith, stretches_and_more i k (apex m c d) h)

-- a loop of n edges has n - 3 diagonals in a cover
pub loop_diagonals : (n : ℕ) (c : Cover) → Covers 0 (n - 1) c → length (inner 0 (n - 1) c) ≡ n - 3
loop_diagonals n c h = omega (arith, inner_length 0 (n - 1) c h)

-- What is listed is what the cover uses,
pub stretch_used : (i k : ℕ) (c : Cover) (a b : ℕ) → 0 < count a b (stretches i k c) → Uses i k c a b
unfolding count
stretch_used i k empty a b l = absurd (omega arith)
stretch_used i k (apex m c d) a b l =
    go (dec_lt 0 (hit a b i k)) (dec_lt 0 (count a b (stretches i m c))) (stretch_used i m c a b) (stretch_used m k d a b)
  where
    go : Dec (0 < hit a b i k) → Dec (0 < count a b (stretches i m c)) → (0 < count a b (stretches i m c) → Uses i m c a b)
        → (0 < count a b (stretches m k d) → Uses m k d a b) → Uses i k (apex m c d) a b
    go (yes x) y f g = let e = hit_of a b i k x in inl (sym e.0, sym e.1)
    go (no x) (yes y) f g = inr (inl (f y))
    go (no x) (no y) f g = inr (inr (g (omega (arith, count_append a b (stretches i m c) (stretches m k d)))))

pub stretch_unused : (i k : ℕ) (c : Cover) (a b : ℕ) → (Uses i k c a b → ⊥) → count a b (stretches i k c) ≡ 0
stretch_unused i k c a b n = go (dec_lt 0 (count a b (stretches i k c)))
  where
    go : Dec (0 < count a b (stretches i k c)) → count a b (stretches i k c) ≡ 0
    go (yes x) = absurd (n (stretch_used i k c a b x))
    go (no x) = omega arith

-- and it is listed once.
pub stretch_once : (i k : ℕ) (c : Cover) (a b : ℕ) → Covers i k c → Uses i k c a b → count a b (stretches i k c) ≡ 1
unfolding count
stretch_once i k empty a b h u = absurd u
stretch_once i k (apex m c d) a b h (inl e) =
    let lo : i < m = h.0 in
    let hi : m < k = h.1 in
    let x : count a b (stretches i m c) ≡ 0 = stretch_unused i m c a b (λ u. omega (arith, uses_in i m c a b h.2 u)) in
    let y : count a b (stretches m k d) ≡ 0 = stretch_unused m k d a b (λ u. omega (arith, uses_in m k d a b h.3 u)) in
    omega (arith, count_append a b (stretches i m c) (stretches m k d), hit_same a b i k (sym e.0) (sym e.1))
stretch_once i k (apex m c d) a b h (inr (inl u)) =
    let lo : i < m = h.0 in
    let hi : m < k = h.1 in
    let w = uses_in i m c a b h.2 u in
    let x : count a b (stretches i m c) ≡ 1 = stretch_once i m c a b h.2 u in
    let y : count a b (stretches m k d) ≡ 0 = stretch_unused m k d a b (λ u. omega (arith, uses_in m k d a b h.3 u)) in
    omega (arith, count_append a b (stretches i m c) (stretches m k d), hit_other a b i k (λ e. omega arith))
stretch_once i k (apex m c d) a b h (inr (inr u)) =
    let lo : i < m = h.0 in
    let hi : m < k = h.1 in
    let w = uses_in m k d a b h.3 u in
    let x : count a b (stretches m k d) ≡ 1 = stretch_once m k d a b h.3 u in
    let y : count a b (stretches i m c) ≡ 0 = stretch_unused i m c a b (λ u. omega (arith, uses_in i m c a b h.2 u)) in
    omega (arith, count_append a b (stretches i m c) (stretches m k d), hit_other a b i k (λ e. omega arith))

-- a used stretch within the outermost
abbrev pub InnerUse : ℕ → ℕ → Cover → ℕ → ℕ → Type 0
InnerUse i k c a b = Uses i k c a b × ((a ≡ i) × (b ≡ k) → ⊥)

pub inner_once : (i k : ℕ) (c : Cover) (a b : ℕ) → Covers i k c → InnerUse i k c a b → count a b (inner i k c) ≡ 1
unfolding count
inner_once i k empty a b h u = absurd u.0
inner_once i k (apex m c d) a b h u =
    omega (arith, stretch_once i k (apex m c d) a b h u.0, hit_other a b i k (λ e. u.1 (sym e.0, sym e.1)))

pub inner_used : (i k : ℕ) (c : Cover) (a b : ℕ) → Covers i k c → 0 < count a b (inner i k c) → InnerUse i k c a b
unfolding count
inner_used i k empty a b h l = absurd (omega arith)
inner_used i k (apex m c d) a b h l =
    let u : Uses i k (apex m c d) a b = stretch_used i k (apex m c d) a b (omega arith) in
    (u, λ e. omega (arith, hit_same a b i k (sym e.0) (sym e.1), stretch_once i k (apex m c d) a b h u))
