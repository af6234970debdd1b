-- How a cover is wound: its triangles' directed edges run once against each side of the loop, once along i to k and once each way along
-- each stretch within that is used, because the triangle on a stretch runs forward along it and back along its two parts.
use Prim.Native.Nat.{ℕ, suc, ◌<◌, ◌≤◌, ◌+◌, ◌-◌}
use mathlib.Core.Path.{◌≡◌, refl, sym, ◌∙◌, ap}
use mathlib.Core.Bool.{◌&&◌}
use mathlib.Core.List.{List, [], ◌∷◌, ◌++◌}
use native.Mathlib.Omega.{arith}
use native.Mathlib.Decide.{dec_lt, dec_le, ℕ_discrete}
use lib.Dec.{eqb, leb}
use borrow.Author.Tests.{eq-eqb, ne_eqb, le-leb, lt-leb}
use Rattle.cover_rules.specs.Covers.{Cover, empty, apex, Covers, Uses, Triangle, triangles}
use Rattle.cover_rules.proofs.Laws.Chords.{uses_in, outermost_used}
use Rattle.cover_rules.proofs.Laws.Pairs.{Pair, pair, one, count, hit, count_append, hit_same, hit_other, hit_turned}
use Rattle.cover_rules.proofs.Laws.Counted.{stretches, InnerUse, stretch_used, stretch_unused, stretch_once, covers_forward}

-- the directed edges of triangles: first to second, second to third and third to first
abbrev pub edges : List Triangle → List Pair
edges [] = []
edges (t ∷ ts) = pair t.first t.second ∷ (pair t.second t.third ∷ (pair t.third t.first ∷ edges ts))

pub edges_append : (s t : List Triangle) → edges (s ++ t) ≡ edges s ++ edges t
edges_append [] t = refl
edges_append (x ∷ s) t =
    ap (λ (l : List Pair). pair x.first x.second ∷ (pair x.second x.third ∷ (pair x.third x.first ∷ l))) (edges_append s t)

-- how often the edge a to b occurs among a cover's triangles
abbrev pub wound : ℕ → ℕ → Cover → ℕ → ℕ → ℕ
wound i k c a b = count a b (edges (triangles i k c))

wound_apex : (i k m : ℕ) (c d : Cover) (a b : ℕ)
    → wound i k (apex m c d) a b ≡ hit a b i k + (hit a b k m + (hit a b m i + (wound i m c a b + wound m k d a b)))
unfolding count
wound_apex i k m c d a b =
    omega (
      arith,
      ap (count a b) (edges_append (triangles i m c) (triangles m k d)),
      count_append a b (edges (triangles i m c)) (edges (triangles m k d)),
    )

wound_empty : (i k a b : ℕ) → wound i k empty a b ≡ 0
unfolding count
wound_empty i k a b = refl

laid_apex : (i k m : ℕ) (c d : Cover) (a b : ℕ)
    → count a b (stretches i k (apex m c d)) ≡ hit a b i k + (count a b (stretches i m c) + count a b (stretches m k d))
unfolding count
laid_apex i k m c d a b = omega (arith, count_append a b (stretches i m c) (stretches m k d))

laid_empty : (i k a b : ℕ) → count a b (stretches i k empty) ≡ 0
unfolding count
laid_empty i k a b = refl

-- forward the triangles run along the stretches that they are laid on
forward : (i k : ℕ) (c : Cover) (a b : ℕ) → Covers i k c → a < b → wound i k c a b ≡ count a b (stretches i k c)
forward i k empty a b h l = omega (arith, wound_empty i k a b, laid_empty i k a b)
forward i k (apex m c d) a b h l =
    let lo : i < m = h.0 in
    let hi : m < k = h.1 in
    omega (
      arith,
      wound_apex i k m c d a b,
      laid_apex i k m c d a b,
      forward i m c a b h.2 l,
      forward m k d a b h.3 l,
      hit_other a b k m (λ e. omega arith),
      hit_other a b m i (λ e. omega arith),
    )

-- 1 where a..b is a side of i..k, and 0 where not
unfoldable side : ℕ → ℕ → ℕ → ℕ → ℕ
side i k a b = one (eqb b (suc a) && (leb i a && leb b k))

side_yes : (i k a b : ℕ) → b ≡ suc a → i ≤ a → b ≤ k → side i k a b ≡ 1
unfolding side one
side_yes i k a b e l r = rw (eq-eqb b (suc a) e, le-leb i a l, le-leb b k r)

side_no : (i k a b : ℕ) → (b ≡ suc a → i ≤ a → b ≤ k → ⊥) → side i k a b ≡ 0
unfolding side one
side_no i k a b n = go (ℕ_discrete b (suc a)) (dec_le i a) (dec_le b k)
  where
    go : Dec (b ≡ suc a) → Dec (i ≤ a) → Dec (b ≤ k) → side i k a b ≡ 0
    go (no e) l r = rw (ne_eqb b (suc a) e)
    go (yes e) (no l) r = rw (eq-eqb b (suc a) e, lt-leb i a (omega arith))
    go (yes e) (yes l) (no r) = rw (eq-eqb b (suc a) e, le-leb i a l, lt-leb b k (omega arith))
    go (yes e) (yes l) (yes r) = absurd (n e l r)

-- a side of i..k lies on one side of an apex
side_split : (i m k a b : ℕ) → i < m → m < k → side i k a b ≡ side i m a b + side m k a b
side_split i m k a b lo hi = go (ℕ_discrete b (suc a)) (dec_le i a) (dec_le b k) (dec_le b m)
  where
    go : Dec (b ≡ suc a) → Dec (i ≤ a) → Dec (b ≤ k) → Dec (b ≤ m) → side i k a b ≡ side i m a b + side m k a b
    go (no e) l r s = omega (arith, side_no i k a b (λ x y z. e x), side_no i m a b (λ x y z. e x), side_no m k a b (λ x y z. e x))
    go (yes e) (no l) r s = omega (arith, side_no i k a b (λ x y z. l y), side_no i m a b (λ x y z. l y), side_no m k a b (λ x y z. omega arith))
    go (yes e) (yes l) (no r) s = omega (arith, side_no i k a b (λ x y z. r z), side_no i m a b (λ x y z. omega arith), side_no m k a b (λ x y z. r z))
    go (yes e) (yes l) (yes r) (yes s) = omega (arith, side_yes i k a b e l r, side_yes i m a b e l s, side_no m k a b (λ x y z. omega arith))
    go (yes e) (yes l) (yes r) (no s) = omega (arith, side_yes i k a b e l r, side_no i m a b (λ x y z. s z), side_yes m k a b e (omega arith) r)

side_only : (i k a b : ℕ) → k ≡ suc i → hit a b i k ≡ side i k a b
side_only i k a b e = go (ℕ_discrete i a) (ℕ_discrete k b)
  where
    go : Dec (i ≡ a) → Dec (k ≡ b) → hit a b i k ≡ side i k a b
    go (yes x) (yes y) = omega (arith, hit_same a b i k x y, side_yes i k a b (omega arith) (omega arith) (omega arith))
    go (no x) y = omega (arith, hit_other a b i k (λ e. x e.0), side_no i k a b (λ p q r. omega arith))
    go (yes x) (no y) = omega (arith, hit_other a b i k (λ e. y e.1), side_no i k a b (λ p q r. omega arith))

-- back they run along the sides and the stretches that they are laid on, but for the outermost
back : (i k : ℕ) (c : Cover) (a b : ℕ) → Covers i k c → a < b
    → wound i k c b a + hit a b i k ≡ count a b (stretches i k c) + side i k a b
back i k empty a b h l = omega (arith, wound_empty i k b a, laid_empty i k a b, side_only i k a b h)
back i k (apex m c d) a b h l =
    let lo : i < m = h.0 in
    let hi : m < k = h.1 in
    omega (
      arith,
      wound_apex i k m c d b a,
      laid_apex i k m c d a b,
      back i m c a b h.2 l,
      back m k d a b h.3 l,
      hit_turned b a k m,
      hit_turned b a m i,
      side_split i m k a b lo hi,
      hit_other b a i k (λ e. omega arith),
    )

-- and nowhere do they stay
still : (i k : ℕ) (c : Cover) (a : ℕ) → Covers i k c → wound i k c a a ≡ 0
still i k empty a h = wound_empty i k a a
still i k (apex m c d) a h =
    let lo : i < m = h.0 in
    let hi : m < k = h.1 in
    omega (
      arith,
      wound_apex i k m c d a a,
      still i m c a h.2,
      still m k d a h.3,
      hit_other a a i k (λ e. omega arith),
      hit_other a a k m (λ e. omega arith),
      hit_other a a m i (λ e. omega arith),
    )

module _ (i k : ℕ) (c : Cover) (h : Covers i k c) where
  -- each side of the loop, turned round, occurs once
  pub side_turned_once : suc i < k → (j : ℕ) → i ≤ j → j < k → wound i k c (suc j) j ≡ 1
  side_turned_once s j l r =
      omega (
        arith,
        back i k c j (suc j) h (omega arith),
        hit_other j (suc j) i k (λ e. omega arith),
        stretch_unused i k c j (suc j) (λ u. omega (arith, uses_in i k c j (suc j) h u)),
        side_yes i k j (suc j) refl l r,
      )

  -- i to k, the last side turned round where i..k is a whole loop, occurs once, and k to i never
  pub outermost_once : suc i < k → wound i k c i k ≡ 1
  outermost_once s = forward i k c i k h (omega arith) ∙ stretch_once i k c i k h (outermost_used i k c h (omega arith))

  pub outermost_never_turned : wound i k c k i ≡ 0
  outermost_never_turned = go (dec_lt (suc i) k)
    where
      lo : i < k
      lo = covers_forward i k c h

      go : Dec (suc i < k) → wound i k c k i ≡ 0
      go (yes s) =
          omega (
            arith,
            back i k c i k h lo,
            hit_same i k i k refl refl,
            stretch_once i k c i k h (outermost_used i k c h (omega arith)),
            side_no i k i k (λ p q r. omega arith),
          )
      go (no s) =
          omega (
            arith,
            back i k c i k h lo,
            hit_same i k i k refl refl,
            stretch_unused i k c i k (λ u. omega (arith, uses_in i k c i k h u)),
            side_yes i k i k (omega (arith, lo)) (omega arith) (omega arith),
          )

  -- a stretch within that is used occurs once each way
  pub inner_along_once : (a b : ℕ) → InnerUse i k c a b → wound i k c a b ≡ 1
  inner_along_once a b u =
      let w = uses_in i k c a b h u.0 in
      forward i k c a b h (omega arith) ∙ stretch_once i k c a b h u.0

  pub inner_against_once : (a b : ℕ) → InnerUse i k c a b → wound i k c b a ≡ 1
  inner_against_once a b u =
      let w = uses_in i k c a b h u.0 in
      omega (
        arith,
        back i k c a b h (omega arith),
        hit_other a b i k (λ e. u.1 (sym e.0, sym e.1)),
        stretch_once i k c a b h u.0,
        side_no i k a b (λ p q r. omega arith),
      )

-- the edges of a cover: the sides turned round, i to k, and the stretches within that are used, each way
pub data EdgeOf (i k : ℕ) (c : Cover) (p q : ℕ) : Type 0 where
  side_turned : p ≡ suc q → i ≤ q → q < k → EdgeOf i k c p q
  outermost : p ≡ i → q ≡ k → EdgeOf i k c p q
  inner_along : InnerUse i k c p q → EdgeOf i k c p q
  inner_against : InnerUse i k c q p → EdgeOf i k c p q

-- nothing else occurs
pub nothing_else : (i k : ℕ) (c : Cover) → Covers i k c → (p q : ℕ) → 0 < wound i k c p q → EdgeOf i k c p q
nothing_else i k c h p q l = go (dec_lt p q) (dec_lt q p)
  where
    ends : Dec (p ≡ i) → Dec (q ≡ k) → Uses i k c p q → EdgeOf i k c p q
    ends (yes e) (yes f) u = outermost e f
    ends (no e) f u = inner_along (u, λ x. e x.0)
    ends (yes e) (no f) u = inner_along (u, λ x. f x.1)

    down : q < p → Dec (0 < count q p (stretches i k c)) → Dec (p ≡ suc q) → Dec (i ≤ q) → Dec (p ≤ k) → EdgeOf i k c p q
    down g (yes x) s y z =
        let u : Uses i k c q p = stretch_used i k c q p x in
        inner_against (
          u,
          λ e.
              omega (
                arith,
                back i k c q p h g,
                stretch_once i k c q p h u,
                hit_same q p i k (sym e.0) (sym e.1),
                side_no i k q p (λ a b d. omega (arith, uses_in i k c q p h u)),
              ),
        )
    down g (no x) (yes s) (yes y) (yes z) = side_turned s y (omega arith)
    down g (no x) (no s) y z = absurd (omega (arith, back i k c q p h g, side_no i k q p (λ a b d. s a)))
    down g (no x) (yes s) (no y) z = absurd (omega (arith, back i k c q p h g, side_no i k q p (λ a b d. y b)))
    down g (no x) (yes s) (yes y) (no z) = absurd (omega (arith, back i k c q p h g, side_no i k q p (λ a b d. z d)))

    go : Dec (p < q) → Dec (q < p) → EdgeOf i k c p q
    go (yes g) y = ends (ℕ_discrete p i) (ℕ_discrete q k) (stretch_used i k c p q (omega (arith, forward i k c p q h g)))
    go (no g) (yes y) = down y (dec_lt 0 (count q p (stretches i k c))) (ℕ_discrete p (suc q)) (dec_le i q) (dec_le p k)
    go (no g) (no y) =
        let e : p ≡ q = omega arith in
        absurd (omega (arith, still i k c q h, ap (λ (x : ℕ). wound i k c x q) e))

-- So the cover of a loop of n edges closes it: each side j to j + 1 is met by one edge j + 1 to j, and the last side, n - 1 to 0, by one edge 0 to n - 1.
pub loop_sides_turned : (n : ℕ) (c : Cover) → 2 < n → Covers 0 (n - 1) c
    → ((j : ℕ) → suc j < n → wound 0 (n - 1) c (suc j) j ≡ 1) × (wound 0 (n - 1) c 0 (n - 1) ≡ 1)
loop_sides_turned n c s h =
    (λ j l. side_turned_once 0 (n - 1) c h (omega arith) j (omega arith) (omega arith), outermost_once 0 (n - 1) c h (omega arith))
