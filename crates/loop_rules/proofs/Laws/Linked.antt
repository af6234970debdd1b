-- Edges that hang together, each starting where the one before ends: said place by place, and as a way from one vertex to another, which
-- can be put together and taken apart; each form follows from the other by going down the list.
use mathlib.Core.Path.{◌≡◌, refl, sym, ap, ◌∙◌, subst}
use mathlib.Core.List.{List, [], ◌∷◌, ◌++◌}
use Prim.Native.Nat.{ℕ, zero, suc, ◌<◌}
use native.Mathlib.Nat.{not-suc-le-zero}
use native.Mathlib.Omega.{arith}
use lib.ListN.{length, get_or, take, drop}
use Rattle.surface_rules.specs.Edges.{start_of, end_of}

-- each of es ends where the one after it starts
unfoldable pub Linked : List ℕ → List ℕ → Type 0
Linked corners es = (i : ℕ) → suc i < length es → end_of corners (get_or es i 0) ≡ start_of corners (get_or es (suc i) 0)

-- and the last ends where the first starts
pub record Closed (corners es : List ℕ) : Type 0 where
  pub linked : Linked corners es
  pub closes : (i : ℕ) → suc i ≡ length es → end_of corners (get_or es i 0) ≡ start_of corners (get_or es 0 0)

-- place by place, each of edges that close ends where the one after it starts
pub closed_next : (corners es : List ℕ) → Closed corners es → (i : ℕ) → suc i < length es → end_of corners (get_or es i 0) ≡ start_of corners (get_or es (suc i) 0)
unfolding Linked
closed_next corners es c = c.linked

-- es runs from x to y: the first starts at x, each next one where the one before ends, and the last ends at y
unfoldable pub FromTo : List ℕ → ℕ → List ℕ → ℕ → Type 0
FromTo corners x [] y = x ≡ y
FromTo corners x (e ∷ es) y = (start_of corners e ≡ x) × FromTo corners (end_of corners e) es y

module _ (corners : List ℕ) where
  pub from_to_append : (x : ℕ) (a : List ℕ) (y : ℕ) (b : List ℕ) (z : ℕ) → FromTo corners x a y → FromTo corners y b z → FromTo corners x (a ++ b) z
  unfolding FromTo
  from_to_append x [] y b z h k = subst (λ (v : ℕ). FromTo corners v b z) (sym h) k
  from_to_append x (e ∷ a) y b z h k = (h.0, from_to_append (end_of corners e) a y b z h.1 k)

  pub from_to_split : (x : ℕ) (a b : List ℕ) (z : ℕ) → FromTo corners x (a ++ b) z → (y : ℕ) × FromTo corners x a y × FromTo corners y b z
  unfolding FromTo
  from_to_split x [] b z h = (x, refl, h)
  from_to_split x (e ∷ a) b z h = let r = from_to_split (end_of corners e) a b z h.1 in (r.0, (h.0, r.1), r.2)

  -- one edge runs from its start to its end
  pub from_to_one : (e : ℕ) → FromTo corners (start_of corners e) (e ∷ []) (end_of corners e)
  unfolding FromTo
  from_to_one e = (refl, refl)

  -- a way is cut where its edge j starts
  pub from_to_cut : (x : ℕ) (p : List ℕ) (y j : ℕ) → FromTo corners x p y → j < length p → FromTo corners x (take j p) (start_of corners (get_or p j 0)) × FromTo corners (start_of corners (get_or p j 0)) (drop j p) y
  unfolding FromTo
  from_to_cut x [] y j h l = absurd (not-suc-le-zero l)
  from_to_cut x (e ∷ p) y zero h l = (sym h.0, (refl, h.1))
  from_to_cut x (e ∷ p) y (suc j) h l = let r = from_to_cut (end_of corners e) p y j h.1 (omega arith) in ((h.0, r.0), r.1)

  pub from_to_begins : (x : ℕ) (es : List ℕ) (y : ℕ) → FromTo corners x es y → 0 < length es → start_of corners (get_or es 0 0) ≡ x
  unfolding FromTo
  from_to_begins x [] y h l = absurd (not-suc-le-zero l)
  from_to_begins x (e ∷ es) y h l = h.0

  pub from_to_ends : (x : ℕ) (es : List ℕ) (y : ℕ) → FromTo corners x es y → (i : ℕ) → suc i ≡ length es → end_of corners (get_or es i 0) ≡ y
  unfolding FromTo
  from_to_ends x [] y h i n = absurd (omega arith)
  from_to_ends x (e ∷ []) y h zero n = h.1
  from_to_ends x (e ∷ []) y h (suc i) n = absurd (omega arith)
  from_to_ends x (e ∷ f ∷ es) y h zero n = absurd (omega arith)
  from_to_ends x (e ∷ f ∷ es) y h (suc i) n = from_to_ends (end_of corners e) (f ∷ es) y h.1 i (omega arith)

  pub from_to_linked : (x : ℕ) (es : List ℕ) (y : ℕ) → FromTo corners x es y → Linked corners es
  unfolding FromTo Linked
  from_to_linked x [] y h i l = absurd (not-suc-le-zero l)
  from_to_linked x (e ∷ []) y h i l = absurd (omega arith)
  from_to_linked x (e ∷ f ∷ es) y h zero l = sym h.1.0
  from_to_linked x (e ∷ f ∷ es) y h (suc i) l = from_to_linked (end_of corners e) (f ∷ es) y h.1 i (omega arith)

  -- a way that comes back to where it began
  pub from_to_closed : (x : ℕ) (es : List ℕ) → FromTo corners x es x → Closed corners es
  from_to_closed x es h =
      record {
        linked = from_to_linked x es x h;
        closes = λ i n. from_to_ends x es x h i n ∙ sym (from_to_begins x es x h (omega arith));
      }

  linked_from : (e : ℕ) (es : List ℕ) (y : ℕ) → Linked corners (e ∷ es) → ((i : ℕ) → suc i ≡ length (e ∷ es) → end_of corners (get_or (e ∷ es) i 0) ≡ y) → FromTo corners (start_of corners e) (e ∷ es) y
  unfolding FromTo Linked
  linked_from e [] y h n = (refl, n 0 refl)
  linked_from e (f ∷ es) y h n =
      let r : FromTo corners (start_of corners f) (f ∷ es) y = linked_from f es y (λ i l. h (suc i) (omega arith)) (λ i l. n (suc i) (omega arith)) in
      (refl, (sym (h 0 (omega arith)), r.1))

  pub closed_from_to : (es : List ℕ) → Closed corners es → FromTo corners (start_of corners (get_or es 0 0)) es (start_of corners (get_or es 0 0))
  closed_from_to [] h = unfold FromTo in refl
  closed_from_to (e ∷ es) h = linked_from e es (start_of corners e) h.linked h.closes

  -- edges that hang together run from somewhere to somewhere
  pub linked_from_to : (es : List ℕ) → Linked corners es → (x : ℕ) × (y : ℕ) × FromTo corners x es y
  linked_from_to [] h = (0, 0, (unfold FromTo in refl))
  linked_from_to (e ∷ es) h =
      let last : ℕ = end_of corners (get_or (e ∷ es) (length es) 0) in
      (start_of corners e, last, linked_from e es last h (λ i n. let q : i ≡ length es = omega arith in ap (λ (k : ℕ). end_of corners (get_or (e ∷ es) k 0)) q))

  -- the first part of edges that hang together
  pub linked_front : (a b : List ℕ) → Linked corners (a ++ b) → Linked corners a
  linked_front a b h = let r = linked_from_to (a ++ b) h in let s = from_to_split r.0 a b r.1 r.2 in from_to_linked r.0 a s.0 s.1
