-- Two lists of triangles, one behind the other: their facets, and the first corner that names no point, which is the first list's, or else the
-- second's, counted on.
use Rattle.std.specs.Prelude.{Option, Some, None}
use mathlib.Core.Path.{◌≡◌, refl, sym, ap, ◌∙◌}
use mathlib.Core.Bool.{Bool, true, false}
use mathlib.Core.List.{List, [], ◌∷◌, ◌++◌, map, flatten, map-append}
use mathlib.Core.Logic.{◌⊎◌, inl, inr}
use Prim.Native.Nat.{ℕ, zero, suc, ◌+◌, ◌-◌, ◌*◌, ◌<◌, ◌≤◌}
use native.Mathlib.Omega.{arith}
use lib.Dec.{leb}
use lib.ListN.{length, get_or, get_or-append, length-append}
use lib.Seq.{get_or-append-add}
use Rattle.base_answers.specs.Answers.{Unnamed}
use Rattle.surface_rules.specs.Smallest.{least}
use Rattle.surface_rules.specs.Threes.{Three, three, threes}
use Rattle.surface_rules.specs.Refusals.{unnamed, refuse_at, then_check, unnamed_refusal}
use Rattle.surface_rules.proofs.Laws.Lists.{flatten_append}
use Rattle.surface_rules.proofs.Laws.Smallest.{least_at, least_sound, least_first, least_never, never_least}
use Rattle.surface_rules.proofs.Laws.Tests.{lt_or_le}
use Rattle.stl_file.specs.Bytes.{facet_of, facets_of}
use Rattle.stl_file.specs.Writing.{after}

-- ---- facets

threes_append : (n : ℕ) (k l : List ℕ) → length k ≡ 3 * n → threes (k ++ l) ≡ threes k ++ threes l
threes_append zero [] l h = refl
threes_append zero (x ∷ k) l h = absurd (omega arith)
threes_append (suc n) [] l h = absurd (omega arith)
threes_append (suc n) (x ∷ []) l h = absurd (omega arith)
threes_append (suc n) (x ∷ y ∷ []) l h = absurd (omega arith)
threes_append (suc n) (x ∷ y ∷ z ∷ k) l h = ap (λ (r : List Three). three x y z ∷ r) (threes_append n k l (omega arith))

-- whole triangles' facets stand before those of what follows
pub facets_append : (words : List ℕ) (n : ℕ) (corners patches : List ℕ) → length corners ≡ 3 * n → facets_of words (after corners patches) ≡ facets_of words corners ++ facets_of words patches
facets_append words n corners patches h =
    ap (λ (l : List Three). flatten (map (facet_of words) l)) (threes_append n corners patches h)
    ∙ ap flatten (map-append (facet_of words) (threes corners) (threes patches))
    ∙ flatten_append (map (facet_of words) (threes corners)) (map (facet_of words) (threes patches))

-- ---- any search, of which what is below m goes by p and the rest by q

module _ (r p q : ℕ → Bool) (m n : ℕ) (front : (k : ℕ) → k < m → r k ≡ p k) (rest : (k : ℕ) → k < n → r (m + k) ≡ q k) where
  least_front : (i : ℕ) → least p m ≡ Some i → least r (m + n) ≡ Some i
  least_front i e =
      let s = least_sound p m i e in
      least_at r i (m + n) (never_least r i (λ k l. front k (omega (arith, s.0)) ∙ least_first p m i e k l)) (front i s.0 ∙ s.1) (omega (arith, s.0))

  -- where p finds nothing, r finds nothing before what q finds
  module _ (e : least p m ≡ None) where
    below : (j : ℕ) → j ≤ n → ((k : ℕ) → k < j → q k ≡ false) → (k : ℕ) → k < m + j → (k < m) ⊎ (m ≤ k) → r k ≡ false
    below j b w k l (inl h) = front k h ∙ least_never p m e k h
    below j b w k l (inr h) =
        let z : m + (k - m) ≡ k = omega arith in
        ap r (sym z) ∙ rest (k - m) (omega arith) ∙ w (k - m) (omega arith)

    least_rest : (i : ℕ) → least q n ≡ Some i → least r (m + n) ≡ Some (m + i)
    least_rest i f =
        let s = least_sound q n i f in
        least_at r (m + i) (m + n) (never_least r (m + i) (λ k l. below i (omega (arith, s.0)) (least_first q n i f) k l (lt_or_le k m))) (rest i s.0 ∙ s.1) (omega (arith, s.0))

    least_neither : least q n ≡ None → least r (m + n) ≡ None
    least_neither f = never_least r (m + n) (λ k l. below n (omega arith) (least_never q n f) k l (lt_or_le k m))

-- ---- corners and patches

module _ (corners patches : List ℕ) (points : ℕ) where
  in_front : (k : ℕ) → k < length corners → unnamed (after corners patches) points k ≡ unnamed corners points k
  unfolding unnamed
  in_front k h = ap (leb points) (get_or-append corners patches 0 k h)

  behind : (k : ℕ) → k < length patches → unnamed (after corners patches) points (length corners + k) ≡ unnamed patches points k
  unfolding unnamed
  behind k h = ap (leb points) (get_or-append-add corners patches k 0)

  abbrev found : Option ℕ
  found = least (unnamed (after corners patches) points) (length (after corners patches))

  whole : found ≡ least (unnamed (after corners patches) points) (length corners + length patches)
  whole = ap (least (unnamed (after corners patches) points)) (length-append corners patches)

  pub first_in_corners : (i : ℕ) → least (unnamed corners points) (length corners) ≡ Some i → found ≡ Some i
  first_in_corners i e = whole ∙ least_front _ (unnamed corners points) (unnamed patches points) (length corners) (length patches) in_front behind i e

  module _ (e : least (unnamed corners points) (length corners) ≡ None) where
    pub first_in_patches : (i : ℕ) → least (unnamed patches points) (length patches) ≡ Some i → found ≡ Some (length corners + i)
    first_in_patches i f = whole ∙ least_rest _ (unnamed corners points) (unnamed patches points) (length corners) (length patches) in_front behind e i f

    pub first_nowhere : least (unnamed patches points) (length patches) ≡ None → found ≡ None
    first_nowhere f = whole ∙ least_neither _ (unnamed corners points) (unnamed patches points) (length corners) (length patches) in_front behind e f

  -- "4 (counted on through the patches)"
  pub counted_on : unnamed_refusal (after corners patches) points
      ≡ then_check (unnamed_refusal corners points) (refuse_at (λ (i : ℕ). Unnamed (length corners + i)) (least (unnamed patches points) (length patches)))
  counted_on = go (least (unnamed corners points) (length corners)) refl (least (unnamed patches points) (length patches)) refl
    where
      go : (f : Option ℕ) → least (unnamed corners points) (length corners) ≡ f → (g : Option ℕ) → least (unnamed patches points) (length patches) ≡ g
          → unnamed_refusal (after corners patches) points ≡ then_check (refuse_at Unnamed f) (refuse_at (λ (i : ℕ). Unnamed (length corners + i)) g)
      go (Some i) e g d = ap (refuse_at Unnamed) (first_in_corners i e)
      go None e (Some i) d = ap (refuse_at Unnamed) (first_in_patches e i d)
      go None e None d = ap (refuse_at Unnamed) (first_nowhere e d)
