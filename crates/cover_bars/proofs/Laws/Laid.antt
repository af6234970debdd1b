-- A cover's first sides and the sides of the ring join all that its triangles join: a side of a triangle that is not its first is the first of a triangle on one of its parts, or a side of the ring.
use mathlib.Core.Path.{◌≡◌, refl, sym, ap, ap₂, ◌∙◌, subst}
use mathlib.Core.Bool.{Bool, true, false, ◌&&◌, ◌||◌, and_comm, or_comm, true≢false}
use mathlib.Core.List.{List, [], ◌∷◌, ◌++◌}
use mathlib.Core.Logic.{◌⊎◌, inl, inr, ⊎_elim}
use Prim.Native.Nat.{ℕ, ◌+◌, ◌-◌, ◌%◌, ◌<◌}
use native.Mathlib.Omega.{arith}
use lib.Dec.{eqb}
use lib.ListN.{length, get_or}
use borrow.Author.Tests.{eqb-true}
use Rattle.surface_rules.proofs.Laws.Tests.{both_true}
use Rattle.cover_rules.specs.Covers.{Cover, empty, apex, Covers, triangles, corners_of, patch_of}
use Rattle.cover_rules.proofs.Laws.Counted.{covers_forward}
use Rattle.cover_rules.proofs.Laws.Corners.{corners_append, corners_whole}
use Rattle.cover_bars.specs.Bars.{between}
use Rattle.cover_bars.specs.Workings.Chains.{Edge, joins, firsts}
use Rattle.cover_bars.proofs.Laws.Joins.{joins_append, between_none}
use Rattle.cover_bars.proofs.Laws.Tests.{either_true, or_left, or_right, same_truth}
use Rattle.cover_bars.proofs.Laws.Triples.{ends_of, between_append, between_turned, between_one, firsts_append}

ends_turned : (a b u v : ℕ) → ends_of a b u v ≡ ends_of b a u v
ends_turned a b u v = or_comm (eqb a u && eqb b v) (eqb a v && eqb b u) ∙ ap₂ (λ (s t : Bool). s || t) (and_comm (eqb a v) (eqb b u)) (and_comm (eqb a u) (eqb b v))

-- one of five
split5 : (a b c d e : Bool) → (((a || b) || c) || (d || e)) ≡ true → (((a ≡ true) ⊎ (b ≡ true)) ⊎ (c ≡ true)) ⊎ ((d ≡ true) ⊎ (e ≡ true))
split5 a b c d e q =
    ⊎_elim
    (λ f. inl (⊎_elim (λ g. inl (either_true a b g)) inr (either_true (a || b) c f)))
    (λ f. inr (either_true d e f))
    (either_true ((a || b) || c) (d || e) q)

module _ (vertex : ℕ → ℕ) (u v : ℕ) where
  -- the patch on i..k joins u and v; its first sides do
  abbrev laid_joins : ℕ → ℕ → Cover → Bool
  laid_joins i k c = between (corners_of vertex (triangles i k c)) u v

  abbrev firsts_join : ℕ → ℕ → Cover → Bool
  firsts_join i k c = joins (firsts (corners_of vertex (triangles i k c))) u v

  -- a and b have u and v for their vertices, in either order
  abbrev tops : ℕ → ℕ → Bool
  tops a b = ends_of (vertex a) (vertex b) u v

  module _ (i k m : ℕ) (c d : Cover) where
    laid_apex : laid_joins i k (apex m c d) ≡ (((tops i k || tops k m) || tops m i) || (laid_joins i m c || laid_joins m k d))
    laid_apex =
        between_append (vertex i ∷ (vertex k ∷ (vertex m ∷ []))) (corners_of vertex (triangles i m c ++ triangles m k d)) refl u v
        ∙ ap₂ (λ (s t : Bool). s || t) (between_one (vertex i) (vertex k) (vertex m) u v)
        (ap (λ (l : List ℕ). between l u v) (corners_append vertex (triangles i m c) (triangles m k d))
        ∙ between_append (corners_of vertex (triangles i m c)) (corners_of vertex (triangles m k d)) (corners_whole vertex (triangles i m c)) u v)

    firsts_apex : firsts_join i k (apex m c d) ≡ (tops i k || (firsts_join i m c || firsts_join m k d))
    unfolding firsts joins
    firsts_apex =
        ap (λ (t : Bool). tops i k || t)
        (ap (λ (l : List ℕ). joins (firsts l) u v) (corners_append vertex (triangles i m c) (triangles m k d))
        ∙ ap (λ (es : List Edge). joins es u v) (firsts_append (corners_of vertex (triangles i m c)) (corners_of vertex (triangles m k d)) (corners_whole vertex (triangles i m c)))
        ∙ joins_append (firsts (corners_of vertex (triangles i m c))) (firsts (corners_of vertex (triangles m k d))) u v)

  firsts_none : (i k : ℕ) → firsts_join i k empty ≡ false
  unfolding firsts joins
  firsts_none i k = refl

  -- what the first sides join the patch joins
  firsts_laid : (i k : ℕ) (c : Cover) → firsts_join i k c ≡ true → laid_joins i k c ≡ true
  firsts_laid i k empty e = absurd (true≢false (sym e ∙ firsts_none i k))
  firsts_laid i k (apex m c d) e =
      laid_apex i k m c d
      ∙ ⊎_elim
      (λ f. or_left ((tops i k || tops k m) || tops m i) _ (or_left (tops i k || tops k m) _ (or_left (tops i k) _ f)))
      (λ f.
      or_right ((tops i k || tops k m) || tops m i) _
      (⊎_elim
      (λ g. or_left (laid_joins i m c) _ (firsts_laid i m c g))
      (λ g. or_right (laid_joins i m c) _ (firsts_laid m k d g))
      (either_true (firsts_join i m c) _ f)))
      (either_true (tops i k) _ (sym (firsts_apex i k m c d) ∙ e))

  -- with the ring's sides in the input, what the patch joins the input joins, or the first sides do
  module _ (input : List ℕ) (n : ℕ) (sides : (j : ℕ) → j + 1 < n → between input (vertex j) (vertex (j + 1)) ≡ true) where
    abbrev Told : ℕ → ℕ → Cover → Type 0
    Told i k c = (between input u v ≡ true) ⊎ (firsts_join i k c ≡ true)

    side_told : (a b : ℕ) → between input (vertex a) (vertex b) ≡ true → tops a b ≡ true → between input u v ≡ true
    side_told a b s e =
        ⊎_elim
        (λ f. let g = both_true _ _ f in sym (ap₂ (between input) (eqb-true _ _ g.0) (eqb-true _ _ g.1)) ∙ s)
        (λ f. let g = both_true _ _ f in between_turned input u v ∙ sym (ap₂ (between input) (eqb-true _ _ g.0) (eqb-true _ _ g.1)) ∙ s)
        (either_true (eqb (vertex a) u && eqb (vertex b) v) _ e)

    top_told : (i k : ℕ) (c : Cover) → Covers i k c → k < n → tops i k ≡ true → Told i k c
    top_told i k empty h l e = let q : i + 1 ≡ k = omega arith in inl (side_told i k (subst (λ (z : ℕ). between input (vertex i) (vertex z) ≡ true) q (sides i (omega arith))) e)
    top_told i k (apex m c d) h l e = inr (firsts_apex i k m c d ∙ or_left (tops i k) _ e)

    on_left : (i k m : ℕ) (c d : Cover) → Told i m c → Told i k (apex m c d)
    on_left i k m c d (inl e) = inl e
    on_left i k m c d (inr e) = inr (firsts_apex i k m c d ∙ or_right (tops i k) _ (or_left (firsts_join i m c) _ e))

    on_right : (i k m : ℕ) (c d : Cover) → Told m k d → Told i k (apex m c d)
    on_right i k m c d (inl e) = inl e
    on_right i k m c d (inr e) = inr (firsts_apex i k m c d ∙ or_right (tops i k) _ (or_right (firsts_join i m c) _ e))

    laid_told : (i k : ℕ) (c : Cover) → Covers i k c → k < n → laid_joins i k c ≡ true → Told i k c
    laid_told i k empty h l e = absurd (true≢false (sym e ∙ between_none u v))
    laid_told i k (apex m c d) h l e =
        let lo : i < m = h.0 in
        let hi : m < k = h.1 in
        ⊎_elim
        (⊎_elim
        (⊎_elim
        (λ g. top_told i k (apex m c d) h l g)
        (λ g. on_right i k m c d (top_told m k d h.3 l (ends_turned (vertex m) (vertex k) u v ∙ g))))
        (λ g. on_left i k m c d (top_told i m c h.2 (omega arith) (ends_turned (vertex i) (vertex m) u v ∙ g))))
        (⊎_elim (λ g. on_left i k m c d (laid_told i m c h.2 (omega arith) g)) (λ g. on_right i k m c d (laid_told m k d h.3 l g)))
        (split5 (tops i k) (tops k m) (tops m i) (laid_joins i m c) (laid_joins m k d) (sym (laid_apex i k m c d) ∙ e))

    firsts_tell : (i k : ℕ) (c : Cover) → Covers i k c → k < n → (between input u v || firsts_join i k c) ≡ (between input u v || laid_joins i k c)
    firsts_tell i k c h l =
        same_truth (between input u v || firsts_join i k c) (between input u v || laid_joins i k c)
        (λ e. ⊎_elim (λ f. or_left (between input u v) _ f) (λ f. or_right (between input u v) _ (firsts_laid i k c f)) (either_true (between input u v) _ e))
        (λ e.
        ⊎_elim
        (λ f. or_left (between input u v) _ f)
        (λ f. ⊎_elim (λ g. or_left (between input u v) _ g) (λ g. or_right (between input u v) _ g) (laid_told i k c h l f))
        (either_true (between input u v) _ e))

-- ---- patches

swapped : (i l f q : Bool) → (i || f) ≡ (i || q) → ((i || l) || f) ≡ (i || (l || q))
swapped true l f q e = refl
swapped false l f q e = ap (λ (t : Bool). l || t) e

-- with the first sides of a patch the chains tell of the patch
pub laid_same : (input laid ring : List ℕ) (c : Cover) → length laid % 3 ≡ 0 → Covers 0 (length ring - 1) c
    → ((j : ℕ) → j + 1 < length ring → between input (get_or ring j 0) (get_or ring (j + 1) 0) ≡ true)
    → (u v : ℕ) → ((between input u v || between laid u v) || joins (firsts (patch_of ring c)) u v) ≡ (between input u v || between (laid ++ patch_of ring c) u v)
laid_same input laid ring c w h sides u v =
    swapped (between input u v) (between laid u v) (joins (firsts (patch_of ring c)) u v) (between (patch_of ring c) u v)
    (firsts_tell (λ (j : ℕ). get_or ring j 0) u v input (length ring) sides 0 (length ring - 1) c h (let l = covers_forward 0 (length ring - 1) c h in omega arith))
    ∙ ap (λ (t : Bool). between input u v || t) (sym (between_append laid (patch_of ring c) w u v))
