-- A set of triangles is one cover at most, because a cover has one triangle on each of its stretches, which gives the apex there.
use Prim.Native.Nat.{ℕ, suc, ◌<◌, ◌≤◌}
use mathlib.Core.Path.{◌≡◌, refl, sym, ◌∙◌, ap, subst}
use mathlib.Core.Logic.{inl, inr, ⊎_elim}
use mathlib.Core.List.{List}
use native.Mathlib.Omega.{arith}
use Rattle.cover_rules.specs.Covers.{Cover, empty, apex, Covers, Triangle, on, triangles}
use Rattle.cover_rules.specs.Sets.{turned, Alike, ListsCover}
use Rattle.cover_rules.specs.Workings.Matching.{In, Stands}
use Rattle.cover_rules.proofs.Laws.Listed.{in_left, in_right, in_cases, listed_of, listed_in, Apart, apart_append}

-- where the triangles of a cover of i..k lie: the third corner between the other two
pub record Inside (i k : ℕ) (t : Triangle) : Type 0 where
  pub from : i ≤ t.first
  pub low : t.first < t.third
  pub high : t.third < t.second
  pub to : t.second ≤ k

pub inside : (i k : ℕ) (c : Cover) → Covers i k c → (t : Triangle) → In t (triangles i k c) → Inside i k t
inside i k empty h t g = absurd g
inside i k (apex m c d) h t (inl e) =
    let l : i < m = h.0 in
    let r : m < k = h.1 in
    subst (Inside i k) (sym e) (record { from = omega arith; low = l; high = r; to = omega arith })
inside i k (apex m c d) h t (inr g) =
    let l : i < m = h.0 in
    let r : m < k = h.1 in
    ⊎_elim
    (λ q. let n = inside i m c h.2 t q in record { from = n.from; low = n.low; high = n.high; to = omega arith })
    (λ q. let n = inside m k d h.3 t q in record { from = omega arith; low = n.low; high = n.high; to = n.to })
    (in_cases t (triangles i m c) (triangles m k d) g)

pub corners_of_lem : (x y : Triangle) → x ≡ y → (x.first ≡ y.first) × (x.second ≡ y.second) × (x.third ≡ y.third)
corners_of_lem x y e = (ap (λ (z : Triangle). z.first) e, ap (λ (z : Triangle). z.second) e, ap (λ (z : Triangle). z.third) e)

pub by_corners : (x y : Triangle) → x.first ≡ y.first → x.second ≡ y.second → x.third ≡ y.third → x ≡ y
by_corners x y p q r = λ i. record { first = p i; second = q i; third = r i }

-- two triangles that one is alike to, each with its third corner between the other two, are equal
pub alike_both : (s t u : Triangle) → t.first < t.third → t.third < t.second → u.first < u.third → u.third < u.second
    → Alike s t → Alike s u → t ≡ u
alike_both s t u a b c d (inl e) (inl f) = sym e ∙ f
alike_both s t u a b c d (inl e) (inr (inl f)) = let p = corners_of_lem s t e in let q = corners_of_lem s (turned u) f in absurd (omega arith)
alike_both s t u a b c d (inl e) (inr (inr f)) =
    let p = corners_of_lem s t e in
    let q = corners_of_lem s (turned (turned u)) f in
    absurd (omega arith)
alike_both s t u a b c d (inr (inl e)) (inl f) = let p = corners_of_lem s (turned t) e in let q = corners_of_lem s u f in absurd (omega arith)
alike_both s t u a b c d (inr (inl e)) (inr (inl f)) =
    let p = corners_of_lem s (turned t) e in
    let q = corners_of_lem s (turned u) f in
    by_corners t u (omega arith) (omega arith) (omega arith)
alike_both s t u a b c d (inr (inl e)) (inr (inr f)) =
    let p = corners_of_lem s (turned t) e in
    let q = corners_of_lem s (turned (turned u)) f in
    absurd (omega arith)
alike_both s t u a b c d (inr (inr e)) (inl f) =
    let p = corners_of_lem s (turned (turned t)) e in
    let q = corners_of_lem s u f in
    absurd (omega arith)
alike_both s t u a b c d (inr (inr e)) (inr (inl f)) =
    let p = corners_of_lem s (turned (turned t)) e in
    let q = corners_of_lem s (turned u) f in
    absurd (omega arith)
alike_both s t u a b c d (inr (inr e)) (inr (inr f)) =
    let p = corners_of_lem s (turned (turned t)) e in
    let q = corners_of_lem s (turned (turned u)) f in
    by_corners t u (omega arith) (omega arith) (omega arith)

-- no two triangles of a cover are alike
pub cover_apart : (i k : ℕ) (c : Cover) → Covers i k c → Apart (triangles i k c)
cover_apart i k empty h = tt
cover_apart i k (apex m c d) h = (
  λ x s g e f.
      ⊎_elim
      (λ q. let n = inside i m c h.2 x q in let y = corners_of_lem (on i k m) x (alike_both s (on i k m) x l r n.low n.high e f) in omega arith)
      (λ q. let n = inside m k d h.3 x q in let y = corners_of_lem (on i k m) x (alike_both s (on i k m) x l r n.low n.high e f) in omega arith)
      (in_cases x (triangles i m c) (triangles m k d) g),
  apart_append (triangles i m c) (triangles m k d) (cover_apart i m c h.2) (cover_apart m k d h.3)
      (λ t u s g q e f.
      let n = inside i m c h.2 t g in
      let o = inside m k d h.3 u q in
      let y = corners_of_lem t u (alike_both s t u n.low n.high o.low o.high e f) in
      omega arith),
)
  where
    l : i < m
    l = h.0

    r : m < k
    r = h.1

-- a cover has one triangle on a stretch
pub stretch_one : (i k : ℕ) (c : Cover) → Covers i k c → (t u : Triangle) → In t (triangles i k c) → In u (triangles i k c)
    → t.first ≡ u.first → t.second ≡ u.second → t ≡ u
stretch_one i k empty h t u g q e f = absurd g
stretch_one i k (apex m c d) h t u (inl g) (inl q) e f = g ∙ sym q
stretch_one i k (apex m c d) h t u (inl g) (inr q) e f =
    let x = corners_of_lem t (on i k m) g in
    let l : i < m = h.0 in
    let r : m < k = h.1 in
    absurd
    (⊎_elim
    (λ q. let n = inside i m c h.2 u q in omega arith)
    (λ q. let n = inside m k d h.3 u q in omega arith)
    (in_cases u (triangles i m c) (triangles m k d) q))
stretch_one i k (apex m c d) h t u (inr g) (inl q) e f =
    let x = corners_of_lem u (on i k m) q in
    let l : i < m = h.0 in
    let r : m < k = h.1 in
    absurd
    (⊎_elim
    (λ q. let n = inside i m c h.2 t q in omega arith)
    (λ q. let n = inside m k d h.3 t q in omega arith)
    (in_cases t (triangles i m c) (triangles m k d) g))
stretch_one i k (apex m c d) h t u (inr g) (inr q) e f =
    ⊎_elim
    (λ x.
    ⊎_elim
    (λ y. stretch_one i m c h.2 t u x y e f)
    (λ y. let n = inside i m c h.2 t x in let o = inside m k d h.3 u y in absurd (omega arith))
    (in_cases u (triangles i m c) (triangles m k d) q))
    (λ x.
    ⊎_elim
    (λ y. let n = inside m k d h.3 t x in let o = inside i m c h.2 u y in absurd (omega arith))
    (λ y. stretch_one m k d h.3 t u x y e f)
    (in_cases u (triangles i m c) (triangles m k d) q))
    (in_cases t (triangles i m c) (triangles m k d) g)

-- two covers of a stretch within the triangles of a third are equal
pub one_within : (a b : ℕ) (whole : Cover) → Covers a b whole → (i k : ℕ) (c d : Cover) → Covers i k c → Covers i k d
    → ((t : Triangle) → In t (triangles i k c) → In t (triangles a b whole))
    → ((t : Triangle) → In t (triangles i k d) → In t (triangles a b whole)) → c ≡ d
one_within a b whole w i k empty empty h g p q = refl
one_within a b whole w i k empty (apex n y z) h g p q =
    let e : k ≡ suc i = h in
    let l : i < n = g.0 in
    let r : n < k = g.1 in
    absurd (omega arith)
one_within a b whole w i k (apex m c d) empty h g p q =
    let e : k ≡ suc i = g in
    let l : i < m = h.0 in
    let r : m < k = h.1 in
    absurd (omega arith)
one_within a b whole w i k (apex m c d) (apex n y z) h g p q =
    let e : m ≡ n = (corners_of_lem (on i k m) (on i k n) (stretch_one a b whole w (on i k m) (on i k n) (p (on i k m) (inl refl)) (q (on i k n) (inl refl)) refl refl)).2 in
    let u : c ≡ y =
    one_within a b whole w i m c y h.2 (rw e g.2)
    (λ t x. p t (inr (in_left t (triangles i m c) (triangles m k d) x)))
    (λ t x. q t (inr (in_left t (triangles i n y) (triangles n k z) (rw e at x)))) in
    let v : d ≡ z =
    one_within a b whole w m k d z h.3 (rw e g.3)
    (λ t x. p t (inr (in_right t (triangles i m c) (triangles m k d) x)))
    (λ t x. q t (inr (in_right t (triangles i n y) (triangles n k z) (rw e at x)))) in
    cc

-- what stands in a set that is a cover is a triangle of the cover
pub stands_of : (s : List Triangle) (i k : ℕ) (c : Cover) → ListsCover s i k c → (t : Triangle) → t.first < t.third
    → t.third < t.second → Stands s t → In t (triangles i k c)
stands_of s i k c h t lo hi g =
    let y = listed_of (triangles i k c) s h.1 g.0 g.1 in
    let n = inside i k c h.0 y.0 y.1 in
    subst (λ (x : Triangle). In x (triangles i k c)) (alike_both g.0 y.0 t n.low n.high lo hi y.2 g.2) y.1

-- so a set is one cover at most
pub is_cover_once : (s : List Triangle) (i k : ℕ) (c d : Cover) → ListsCover s i k c → ListsCover s i k d → c ≡ d
is_cover_once s i k c d p q =
    one_within i k d q.0 i k c d p.0 q.0
    (λ t g. let n = inside i k c p.0 t g in stands_of s i k d q t n.low n.high (listed_in (triangles i k c) s p.1 t g))
    (λ t g. g)
