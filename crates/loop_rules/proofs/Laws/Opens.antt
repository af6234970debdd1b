-- The open half-edges of a surface as a list, ascending, have each of them once, since each half-edge is tried once; so they are the
-- edges of all cycles in another order.
use mathlib.Core.Path.{◌≡◌, refl, sym, ap, ◌∙◌}
use mathlib.Core.Bool.{Bool, true, false, cond}
use mathlib.Core.List.{List, [], ◌∷◌, ◌++◌, append-nil}
use mathlib.Core.Logic.{⊎_elim}
use Prim.Native.Nat.{ℕ, zero, suc, ◌<◌, ◌≤◌}
use native.Mathlib.Nat.{not-suc-le-zero, le_of_suc-le-suc, eq-or-lt_of_le}
use native.Mathlib.Omega.{arith}
use lib.ListN.{length, get_or}
use Rattle.surface_rules.specs.Edges.{Sound, is_open}
use Rattle.loop_rules.proofs.Laws.Distinct.{Distinct, Bounded, distinct_append, distinct_none, distinct_bound}
use Rattle.loop_rules.proofs.Laws.Parts.{distinct_one}
use Rattle.loop_rules.proofs.Laws.Counts.{Among, Same}
use Rattle.loop_rules.proofs.Laws.Places.{among_front, among_back}
use Rattle.loop_rules.proofs.Laws.Members.{Within, among_either, members_length, members_same}
use Rattle.loop_rules.proofs.Laws.Surfaces.{edges_below, surface_distinct, surface_open, open_surface}

-- the open half-edges below k
unfoldable pub opens_below : List ℕ → ℕ → List ℕ
opens_below corners zero = []
opens_below corners (suc k) = let before = opens_below corners k in before ++ cond (is_open corners k) (k ∷ []) []

-- those of the surface
unfoldable pub open_edges : List ℕ → List ℕ
open_edges corners = opens_below corners (length corners)

-- how many there are
abbrev pub open_count : List ℕ → ℕ
open_count corners = length (open_edges corners)

module _ (corners : List ℕ) where
  -- every one there is open and below k
  pub opens_open : (k e : ℕ) → Among e (opens_below corners k) → (e < k) × (is_open corners e ≡ true)
  unfolding opens_below
  opens_open zero e m = absurd (not-suc-le-zero m.below)
  opens_open (suc k) e m = go (opens_open k e) (is_open corners k) refl m
    where
      one : (x : ℕ) → Among e (x ∷ []) → x ≡ e
      one x m = let q : m.place ≡ 0 = let b = m.below in omega arith in ap (λ (i : ℕ). get_or (x ∷ []) i 0) (sym q) ∙ m.is

      go : (Among e (opens_below corners k) → (e < k) × (is_open corners e ≡ true)) → (t : Bool) → is_open corners k ≡ t → Among e (opens_below corners k ++ cond t (k ∷ []) []) → (e < suc k) × (is_open corners e ≡ true)
      go r true d m =
          among_either e (opens_below corners k) (k ∷ []) _ (λ w. let s = r w in (omega (arith, s.0), s.1))
          (λ w. let q : k ≡ e = one k w in (omega arith, ap (is_open corners) (sym q) ∙ d))
          m
      go r false d m = among_either e (opens_below corners k) [] _ (λ w. let s = r w in (omega (arith, s.0), s.1)) (λ w. absurd (not-suc-le-zero w.below)) m

  -- and every one that is, is there
  pub open_opens : (k e : ℕ) → e < k → is_open corners e ≡ true → Among e (opens_below corners k)
  unfolding opens_below
  open_opens zero e l o = absurd (not-suc-le-zero l)
  open_opens (suc k) e l o =
      ⊎_elim
      (λ (q : e ≡ k).
      let d : is_open corners k ≡ true = ap (is_open corners) (sym q) ∙ o in
      rw d (among_back e (opens_below corners k) (k ∷ []) (record { place = 0; below = omega arith; is = sym q })))
      (λ (q : e < k). among_front e (opens_below corners k) _ (open_opens k e q o))
      (eq-or-lt_of_le (le_of_suc-le-suc l))

  pub opens_distinct : (k : ℕ) → Distinct (opens_below corners k)
  unfolding opens_below
  opens_distinct zero = distinct_none
  opens_distinct (suc k) = go (opens_distinct k) (is_open corners k)
    where
      hits : (i j : ℕ) → i < length (opens_below corners k) → j < 1 → get_or (opens_below corners k) i 0 ≡ get_or (k ∷ []) j 0 → ⊥
      hits i zero l m q = let w : get_or (opens_below corners k) i 0 < k = (opens_open k _ (record { place = i; below = l; is = refl })).0 in omega arith
      hits i (suc j) l m q = absurd (omega arith)

      go : Distinct (opens_below corners k) → (t : Bool) → Distinct (opens_below corners k ++ cond t (k ∷ []) [])
      go r true = distinct_append (opens_below corners k) (k ∷ []) r (distinct_one k) hits
      go r false = rw append-nil r

  -- there are no more of them than half-edges
  pub opens_few : (k : ℕ) → length (opens_below corners k) ≤ k
  opens_few k =
      distinct_bound k (opens_below corners k) (opens_distinct k)
      (unfold Bounded in λ i l. (opens_open k (get_or (opens_below corners k) i 0) (record { place = i; below = l; is = refl })).0)

-- ---- the edges of all cycles

module _ (corners : List ℕ) (sound : Sound corners) where
  walked_open : Within (edges_below corners (length corners)) (open_edges corners)
  unfolding Within open_edges
  walked_open e m = let w = surface_open corners sound e m in open_opens corners (length corners) e w.0 w.1

  open_walked : Within (open_edges corners) (edges_below corners (length corners))
  unfolding Within open_edges
  open_walked e m = let w = opens_open corners (length corners) e m in open_surface corners sound e w.0 w.1

  open_distinct : Distinct (open_edges corners)
  unfolding open_edges
  open_distinct = opens_distinct corners (length corners)

  -- each stands in both lists as often, and both are equally long
  pub walked_same : Same (edges_below corners (length corners)) (open_edges corners)
  walked_same = members_same (edges_below corners (length corners)) (open_edges corners) (surface_distinct corners sound) open_distinct walked_open open_walked

  pub walked_count : length (edges_below corners (length corners)) ≡ open_count corners
  walked_count = members_length (edges_below corners (length corners)) (open_edges corners) (surface_distinct corners sound) open_distinct walked_open open_walked
