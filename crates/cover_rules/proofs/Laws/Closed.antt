-- A set of n - 2 triangles is a cover of a loop of n exactly if the whole loop has a triangle and both parts of every triangle have one or
-- are sides: from the whole downwards a cover is then read off, and it has n - 2 triangles, so the set has no other.
use Prim.Native.Nat.{ℕ, zero, suc, ◌<◌, ◌≤◌, ◌+◌, ◌-◌}
use mathlib.Core.Path.{◌≡◌, refl, sym, ◌∙◌, ap, subst}
use mathlib.Core.Logic.{◌⊎◌, inl, inr, ⊎_elim}
use mathlib.Core.List.{List, [], ◌∷◌, map}
use native.Mathlib.Omega.{arith}
use lib.ListN.{length, length-map}
use Rattle.cover_rules.specs.Covers.{Cover, empty, apex, Covers, Uses, Triangle, on, triangles}
use Rattle.cover_rules.specs.Sets.{turned, Alike, named, Covered}
use Rattle.cover_rules.specs.Workings.Matching.{In, Stands, Seated, Laid, side, laid, Parted}
use Rattle.cover_rules.proofs.Laws.Counted.{loop_triangles}
use Rattle.cover_rules.proofs.Laws.Listed.{in_left, in_right, in_cases, listed_of, listed_in, Apart, lists}
use Rattle.cover_rules.proofs.Laws.Sets.{inside, corners_of_lem, by_corners, alike_both, cover_apart, one_within}

-- ---- a cover's stretches and its triangles

pub used_in : (i k : ℕ) (c : Cover) (a b : ℕ) → Uses i k c a b → (m : ℕ) × In (on a b m) (triangles i k c)
used_in i k empty a b u = absurd u
used_in i k (apex m c d) a b (inl e) = (m, inl (by_corners (on a b m) (on i k m) e.0 e.1 refl))
used_in i k (apex m c d) a b (inr (inl u)) =
    let r = used_in i m c a b u in (r.0, inr (in_left (on a b r.0) (triangles i m c) (triangles m k d) r.1))
used_in i k (apex m c d) a b (inr (inr u)) =
    let r = used_in m k d a b u in (r.0, inr (in_right (on a b r.0) (triangles i m c) (triangles m k d) r.1))

pub in_used : (i k : ℕ) (c : Cover) (t : Triangle) → In t (triangles i k c) → Uses i k c t.first t.second
in_used i k empty t g = g
in_used i k (apex m c d) t (inl e) = let x = corners_of_lem t (on i k m) e in inl (x.0, x.1)
in_used i k (apex m c d) t (inr g) =
    ⊎_elim (λ q. inr (inl (in_used i m c t q))) (λ q. inr (inr (in_used m k d t q))) (in_cases t (triangles i m c) (triangles m k d) g)

-- a..b is a side or is used
abbrev Part : ℕ → ℕ → Cover → ℕ → ℕ → Type 0
Part i k c a b = (b ≡ suc a) ⊎ Uses i k c a b

whole : (i k : ℕ) (c : Cover) → Covers i k c → Part i k c i k
whole i k empty h = inl h
whole i k (apex m c d) h = inr (inl (refl, refl))

widened : {A B C : Type 0} → (B → C) → A ⊎ B → A ⊎ C
widened f = ⊎_elim inl (λ u. inr (f u))

-- both parts of a triangle's stretch are sides or are used
pub parts : (i k : ℕ) (c : Cover) → Covers i k c → (t : Triangle) → In t (triangles i k c)
    → Part i k c t.first t.third × Part i k c t.third t.second
parts i k empty h t g = absurd g
parts i k (apex m c d) h t (inl e) =
    let x = corners_of_lem t (on i k m) e in
    rw
    (x.0, x.1, x.2)
    (widened (λ u. inr (inl u)) (whole i m c h.2), widened (λ u. inr (inr u)) (whole m k d h.3))
parts i k (apex m c d) h t (inr g) =
    ⊎_elim
    (λ q. let r = parts i m c h.2 t q in (widened (λ u. inr (inl u)) r.0, widened (λ u. inr (inl u)) r.1))
    (λ q. let r = parts m k d h.3 t q in (widened (λ u. inr (inr u)) r.0, widened (λ u. inr (inr u)) r.1))
    (in_cases t (triangles i m c) (triangles m k d) g)

-- ---- by vertices

pub in_named : (vertex : ℕ → ℕ) (l : List Triangle) (t : Triangle) → In t (map (named vertex) l) → (u : Triangle) × In u l × (t ≡ named vertex u)
in_named vertex [] t g = absurd g
in_named vertex (x ∷ l) t (inl e) = (x, inl refl, e)
in_named vertex (x ∷ l) t (inr g) = let r = in_named vertex l t g in (r.0, inr r.1, r.2)

pub named_in : (vertex : ℕ → ℕ) (l : List Triangle) (u : Triangle) → In u l → In (named vertex u) (map (named vertex) l)
named_in vertex [] u g = absurd g
named_in vertex (x ∷ l) u (inl e) = inl (ap (named vertex) e)
named_in vertex (x ∷ l) u (inr g) = inr (named_in vertex l u g)

-- a triangle that is alike to a named one is itself named
pub begun : (vertex : ℕ → ℕ) (t x : Triangle) → Alike t (named vertex x) → (y : Triangle) × Alike y x × (t ≡ named vertex y)
begun vertex t x (inl e) = (x, inl refl, e)
begun vertex t x (inr (inl e)) = (turned x, inr (inl refl), e)
begun vertex t x (inr (inr e)) = (turned (turned x), inr (inr refl), e)

-- the corners are positions of the loop
pub record Below (n : ℕ) (t : Triangle) : Type 0 where
  pub first_below : t.first < n
  pub second_below : t.second < n
  pub third_below : t.third < n

pub below : (n : ℕ) (y x : Triangle) → Seated n x → Alike y x → Below n y
below n y x h (inl e) =
    let c = corners_of_lem y x e in record { first_below = omega arith; second_below = omega arith; third_below = omega arith }
below n y x h (inr (inl e)) =
    let c = corners_of_lem y (turned x) e in record { first_below = omega arith; second_below = omega arith; third_below = omega arith }
below n y x h (inr (inr e)) =
    let c = corners_of_lem y (turned (turned x)) e in
    record { first_below = omega arith; second_below = omega arith; third_below = omega arith }

pub below_alike : (n : ℕ) (x y : Triangle) → Below n x → Alike x y → Below n y
below_alike n x y h (inl e) =
    let c = corners_of_lem x y e in record { first_below = omega arith; second_below = omega arith; third_below = omega arith }
below_alike n x y h (inr (inl e)) =
    let c = corners_of_lem x (turned y) e in record { first_below = omega arith; second_below = omega arith; third_below = omega arith }
below_alike n x y h (inr (inr e)) =
    let c = corners_of_lem x (turned (turned y)) e in
    record { first_below = omega arith; second_below = omega arith; third_below = omega arith }

pub alike_named : (vertex : ℕ → ℕ) (x y : Triangle) → Alike x y → Alike (named vertex x) (named vertex y)
alike_named vertex x y (inl e) = inl (ap (named vertex) e)
alike_named vertex x y (inr (inl e)) = inr (inl (ap (named vertex) e))
alike_named vertex x y (inr (inr e)) = inr (inr (ap (named vertex) e))

pub cover_seated : (n : ℕ) (c : Cover) → Covers 0 (n - 1) c → (t : Triangle) → In t (triangles 0 (n - 1) c) → Seated n t
cover_seated n c h t g = let i = inside 0 (n - 1) c h t g in record { low = i.low; high = i.high; to = omega arith }

-- the loop's vertices are all different
abbrev pub Different : ℕ → (ℕ → ℕ) → Type 0
Different n vertex = (a b : ℕ) → a < n → b < n → vertex a ≡ vertex b → a ≡ b

module _ (n : ℕ) (vertex : ℕ → ℕ) (different : Different n vertex) where
  pub same_positions : (x y : Triangle) → Below n x → Below n y → named vertex x ≡ named vertex y → x ≡ y
  same_positions x y p q e =
      let c = corners_of_lem (named vertex x) (named vertex y) e in
      by_corners x y
      (different x.first y.first p.first_below q.first_below c.0)
      (different x.second y.second p.second_below q.second_below c.1)
      (different x.third y.third p.third_below q.third_below c.2)

  -- a triangle that is alike to the vertices at three positions has no other seat than theirs
  pub seat_alike : (x y : Triangle) → Below n x → Seated n y → Alike (named vertex x) (named vertex y) → Alike x y
  seat_alike x y p q e =
      let b = begun vertex (named vertex x) y e in
      subst (λ (z : Triangle). Alike z y) (sym (same_positions x b.0 p (below n b.0 y q b.1) b.2)) b.1

  -- a triangle has one seat at most
  pub one_seat : (t x y : Triangle) → Seated n x → Seated n y → Alike t (named vertex x) → Alike t (named vertex y) → x ≡ y
  one_seat t x y p q e f =
      let a = begun vertex t x e in
      alike_both a.0 x y p.low p.high q.low q.high a.1
      (seat_alike a.0 y (below n a.0 x p a.1) q (subst (λ (z : Triangle). Alike z (named vertex y)) a.2 f))

  named_apart : (l : List Triangle) → ((u : Triangle) → In u l → Seated n u) → Apart l → Apart (map (named vertex) l)
  named_apart [] k d = tt
  named_apart (t ∷ l) k d = (
    λ x u g e f.
        let y = in_named vertex l x g in
        d.0 y.0 t y.1 (inl refl)
        (inl (one_seat u t y.0 (k t (inl refl)) (k y.0 (inr y.1)) e (subst (Alike u) y.2 f))),
    named_apart l (λ u g. k u (inr g)) d.1,
  )

  -- n - 2 triangles, and each of the cover's among them: the set is the cover
  pub covered_of : (s : List Triangle) (c : Cover) → Covers 0 (n - 1) c → length s ≡ n - 2
      → ((t : Triangle) → In t (triangles 0 (n - 1) c) → Stands s (named vertex t)) → Covered n vertex s c
  covered_of s c h e f = (
    h,
    lists (map (named vertex) ts) s (named_apart ts (cover_seated n c h) (cover_apart 0 (n - 1) c h))
        (e ∙ sym (length-map ts (named vertex) ∙ loop_triangles n c h))
        (λ t g. let y = in_named vertex ts t g in subst (Stands s) (sym y.2) (f y.0 y.1)),
  )
    where
      ts : List Triangle
      ts = triangles 0 (n - 1) c

  module _ (s : List Triangle) (c : Cover) (h : Covered n vertex s c) where
    -- the cover's triangles stand in the set,
    pub covered_stands : (t : Triangle) → In t (triangles 0 (n - 1) c) → Stands s (named vertex t)
    covered_stands t g = listed_in (map (named vertex) (triangles 0 (n - 1) c)) s h.1 (named vertex t) (named_in vertex (triangles 0 (n - 1) c) t g)

    -- those of the set are the cover's,
    pub covered_seat : (t : Triangle) → In t s → (u : Triangle) × In u (triangles 0 (n - 1) c) × Alike t (named vertex u)
    covered_seat t g =
        let x = listed_of (map (named vertex) (triangles 0 (n - 1) c)) s h.1 t g in
        let y = in_named vertex (triangles 0 (n - 1) c) x.0 x.1 in
        (y.0, y.1, subst (Alike t) y.2 x.2)

    pub covered_in : (x : Triangle) → Seated n x → Stands s (named vertex x) → In x (triangles 0 (n - 1) c)
    covered_in x k g =
        let y = covered_seat g.0 g.1 in
        subst (λ (z : Triangle). In z (triangles 0 (n - 1) c))
        (one_seat g.0 y.0 x (cover_seated n c h.0 y.0 y.1) k y.2 g.2) y.1

    -- and the stretches that have triangles are those that the cover uses
    pub used_laid : (a b : ℕ) → Uses 0 (n - 1) c a b → Laid n vertex s a b
    used_laid a b u =
        let m = used_in 0 (n - 1) c a b u in
        laid m.0 (cover_seated n c h.0 (on a b m.0) m.1) (covered_stands (on a b m.0) m.1)

    pub laid_used : (a b : ℕ) → Laid n vertex s a b → (b ≡ suc a) ⊎ Uses 0 (n - 1) c a b
    laid_used a b (side e l) = inl e
    laid_used a b (laid m k g) = inr (in_used 0 (n - 1) c (on a b m) (covered_in (on a b m) k g))

    part_laid : (a b : ℕ) → b < n → Part 0 (n - 1) c a b → Laid n vertex s a b
    part_laid a b l (inl e) = side e l
    part_laid a b l (inr u) = used_laid a b u

    -- the whole loop has a triangle or is a side,
    pub covered_whole : 1 < n → Laid n vertex s 0 (n - 1)
    covered_whole l = part_laid 0 (n - 1) (omega arith) (whole 0 (n - 1) c h.0)

    -- and so have both parts of every seat
    pub covered_parts : (t u : Triangle) → In t s → Seated n u → Alike t (named vertex u)
        → Laid n vertex s u.first u.third × Laid n vertex s u.third u.second
    covered_parts t u g k e =
        let p = parts 0 (n - 1) c h.0 u (covered_in u k (t, g, e)) in (
          part_laid u.first u.third (omega arith) p.0,
          part_laid u.third u.second k.to p.1,
        )

  -- a set is one cover at most
  pub covered_once : (s : List Triangle) (c d : Cover) → Covered n vertex s c → Covered n vertex s d → c ≡ d
  covered_once s c d p q =
      one_within 0 (n - 1) d q.0 0 (n - 1) c d p.0 q.0
      (λ t g. covered_in s d q t (cover_seated n c p.0 t g) (covered_stands s c p t g))
      (λ t g. g)

  -- ---- the other way round

  module _ (s : List Triangle) (parted : (t : Triangle) → In t s → Parted n vertex s t) where
    -- a stretch's triangle in the set, and the stretch's two parts
    below_laid : (a b m : ℕ) → Seated n (on a b m) → Stands s (named vertex (on a b m)) → Laid n vertex s a m × Laid n vertex s m b
    below_laid a b m k g =
        let p = parted g.0 g.1 in
        let c = corners_of_lem p.seat (on a b m) (one_seat g.0 p.seat (on a b m) p.seated k p.alike g.2) in
        rw (← c.0, ← c.1, ← c.2) (p.before, p.after)

    -- the set has every triangle of some cover of a..b
    abbrev Whole : ℕ → ℕ → Type 0
    Whole a b = (c : Cover) × Covers a b c × ((t : Triangle) → In t (triangles a b c) → Stands s (named vertex t))

    one_more : (a b : ℕ) → ((m : ℕ) → a < m → m < b → (Laid n vertex s a m → Whole a m) × (Laid n vertex s m b → Whole m b))
        → Laid n vertex s a b → Whole a b
    one_more a b f (side e u) = (empty, e, λ t g. absurd g)
    one_more a b f (laid m k g) =
        let p = below_laid a b m k g in
        let r = f m k.low k.high in
        let c = r.0 p.0 in
        let d = r.1 p.1 in (
          apex m c.0 d.0,
          (k.low, k.high, c.1, d.1),
          λ t q.
              ⊎_elim
              (λ e. subst (λ (z : Triangle). Stands s (named vertex z)) (sym e) g)
              (λ r. ⊎_elim (c.2 t) (d.2 t) (in_cases t (triangles a m c.0) (triangles m b d.0) r))
              q,
        )

    -- from a stretch that has a triangle, or is a side, a cover is read off
    read_off : (fuel a b : ℕ) → b ≤ a + fuel → Laid n vertex s a b → Whole a b
    read_off zero a b l h = one_more a b (λ m x y. absurd (omega arith)) h
    read_off (suc fuel) a b l h = one_more a b (λ m x y. (read_off fuel a m (omega arith), read_off fuel m b (omega arith))) h

    -- so a set of n - 2 triangles that has one on the whole loop is a cover
    pub closed_covered : length s ≡ n - 2 → Laid n vertex s 0 (n - 1) → (c : Cover) × Covered n vertex s c
    closed_covered e l =
        let r = read_off n 0 (n - 1) (omega arith) l in
        (r.0, covered_of s r.0 r.1 e r.2)
