-- A set lists a list of triangles exactly if each of them stands in the set, begun at any corner, and the set has no more, provided that
-- no two of the list are alike; so what stands in the one stands in the other.
use Prim.Native.Nat.{ℕ, suc}
use mathlib.Core.Path.{◌≡◌, refl, sym, ap, subst}
use mathlib.Core.Logic.{◌⊎◌, inl, inr, ⊎_elim}
use mathlib.Core.List.{List, [], ◌∷◌, ◌++◌}
use native.Mathlib.Omega.{arith}
use lib.ListN.{length, length-append}
use Rattle.cover_rules.specs.Covers.{Triangle}
use Rattle.cover_rules.specs.Sets.{Alike, ListsTriangles}
use Rattle.cover_rules.specs.Workings.Matching.{In, Stands}

pub in_left : (t : Triangle) (a b : List Triangle) → In t a → In t (a ++ b)
in_left t [] b h = absurd h
in_left t (x ∷ a) b (inl h) = inl h
in_left t (x ∷ a) b (inr h) = inr (in_left t a b h)

pub in_right : (t : Triangle) (a b : List Triangle) → In t b → In t (a ++ b)
in_right t [] b h = h
in_right t (x ∷ a) b h = inr (in_right t a b h)

pub in_cases : (t : Triangle) (a b : List Triangle) → In t (a ++ b) → In t a ⊎ In t b
in_cases t [] b h = inr h
in_cases t (x ∷ a) b (inl h) = inl (inl h)
in_cases t (x ∷ a) b (inr h) = ⊎_elim (λ g. inl (inr g)) inr (in_cases t a b h)

pub in_split : (t : Triangle) (l : List Triangle) → In t l → (a b : List Triangle) × (l ≡ a ++ (t ∷ b))
in_split t [] h = absurd h
in_split t (x ∷ l) (inl e) = ([], l, rw e)
in_split t (x ∷ l) (inr h) = let r = in_split t l h in (x ∷ r.0, r.1, ap (λ (m : List Triangle). x ∷ m) r.2)

-- what stands in a list, with u taken out
in_rest : (x u : Triangle) (a b : List Triangle) → In x (a ++ (u ∷ b)) → (x ≡ u) ⊎ In x (a ++ b)
in_rest x u a b h = ⊎_elim (λ g. inr (in_left x a b g)) (⊎_elim inl (λ g. inr (in_right x a b g))) (in_cases x a (u ∷ b) h)

-- what stands in the set is one of the listed triangles
pub listed_of : (ts s : List Triangle) → ListsTriangles s ts → (u : Triangle) → In u s → (t : Triangle) × In t ts × Alike u t
listed_of [] s h u g = absurd (subst (In u) h g)
listed_of (t ∷ ts) s h u g =
    ⊎_elim
    (λ e. (t, inl refl, subst (λ (x : Triangle). Alike x t) (sym e) h.4))
    (λ r. let y = listed_of ts (h.0 ++ h.1) h.5 u r in (y.0, inr y.1, y.2))
    (in_rest u h.2 h.0 h.1 (subst (In u) h.3 g))

-- a listed triangle stands in the set
pub listed_in : (ts s : List Triangle) → ListsTriangles s ts → (t : Triangle) → In t ts → Stands s t
listed_in [] s h t g = absurd g
listed_in (x ∷ ts) s h t (inl e) =
    (h.2, subst (In h.2) (sym h.3) (in_right h.2 h.0 (h.2 ∷ h.1) (inl refl)), subst (λ (y : Triangle). Alike h.2 y) (sym e) h.4)
listed_in (x ∷ ts) s h t (inr g) =
    let y = listed_in ts (h.0 ++ h.1) h.5 t g in (
      y.0,
      subst (In y.0) (sym h.3)
          (⊎_elim (λ q. in_left y.0 h.0 (h.2 ∷ h.1) q) (λ q. in_right y.0 h.0 (h.2 ∷ h.1) (inr q)) (in_cases y.0 h.0 h.1 y.1)),
      y.2,
    )

without : (a b : List Triangle) (u : Triangle) (s : List Triangle) (n : ℕ) → s ≡ a ++ (u ∷ b) → length s ≡ suc n → length (a ++ b) ≡ n
without a b u s n e f = omega (arith, ap length e, length-append a (u ∷ b), length-append a b)

-- the set has as many as are listed
pub listed_length : (ts s : List Triangle) → ListsTriangles s ts → length s ≡ length ts
listed_length [] s h = ap length h
listed_length (t ∷ ts) s h =
    omega (arith, ap length h.3, length-append h.0 (h.2 ∷ h.1), length-append h.0 h.1, listed_length ts (h.0 ++ h.1) h.5)

-- no triangle of the list is alike to a later one
abbrev pub Apart : List Triangle → Type 0
Apart [] = Unit {0}
Apart (t ∷ ts) = ((x u : Triangle) → In x ts → Alike u t → Alike u x → ⊥) × Apart ts

pub apart_append : (s t : List Triangle) → Apart s → Apart t → ((x y u : Triangle) → In x s → In y t → Alike u x → Alike u y → ⊥)
    → Apart (s ++ t)
apart_append [] t p q h = q
apart_append (x ∷ s) t p q h = (
  λ y u g. ⊎_elim (λ r. p.0 y u r) (λ r e f. h x y u (inl refl) r e f) (in_cases y s t g),
  apart_append s t p.1 q (λ x y u g r. h x y u (inr g) r),
)

empty_of : (s : List Triangle) → length s ≡ 0 → s ≡ []
empty_of [] h = refl
empty_of (x ∷ s) h = absurd (omega arith)

-- each stands in the set, and the set has as many: the set lists them
pub lists : (ts s : List Triangle) → Apart ts → length s ≡ length ts → ((t : Triangle) → In t ts → Stands s t) → ListsTriangles s ts
lists [] s d e h = empty_of s e
lists (t ∷ ts) s d e h =
    let y = h t (inl refl) in
    let r = in_split y.0 s y.1 in
    let a = r.0 in
    let b = r.1 in (
      a,
      b,
      y.0,
      r.2,
      y.2,
      lists ts (a ++ b) d.1 (without a b y.0 s (length ts) r.2 e)
          (λ u g.
          let z = h u (inr g) in
          ⊎_elim
          (λ q. absurd (d.0 u y.0 g y.2 (subst (λ (v : Triangle). Alike v u) q z.2)))
          (λ q. (z.0, q, z.2))
          (in_rest z.0 y.0 a b (subst (In z.0) r.2 z.1))),
    )
