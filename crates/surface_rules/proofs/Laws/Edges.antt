-- On a surface that is not refused a half-edge and its twin are each the other's, since no two half-edges have the same two ends in the same order.
use Rattle.std.specs.Prelude.{Option, Some, None}
use mathlib.Core.Path.{◌≡◌, refl, sym, ap, ◌∙◌, subst}
use mathlib.Core.Bool.{true, false, true≢false}
use mathlib.Core.List.{List}
use Prim.Native.Nat.{ℕ, zero, suc, ◌+◌, ◌*◌, ◌/◌, ◌%◌, ◌<◌}
use native.Mathlib.Omega.{arith}
use lib.ListN.{length}
use borrow.Author.Tests.{eqb-true, eqb-false, eq-eqb, not-true, not-false}
use Rattle.surface_rules.specs.Edges.{Sound, following, start_of, end_of, goes, twin, is_open, repeats, twice}
use Rattle.surface_rules.proofs.Laws.Tests.{both_true, either_false}
use Rattle.surface_rules.proofs.Laws.Smallest.{any_none, any_some, least_never, least_sound, any_index, index_any}

-- ---- the half-edges of one triangle

pub following_below : (n h : ℕ) → n % 3 ≡ 0 → h < n → following h < n
unfolding following
following_below n h t l = omega arith

pub following_inj : (g h : ℕ) → following g ≡ following h → g ≡ h
unfolding following
following_inj g h e = omega arith

pub following_first : (t : ℕ) → following (3 * t) ≡ 3 * t + 1
unfolding following
following_first t = omega arith

pub following_second : (t : ℕ) → following (3 * t + 1) ≡ 3 * t + 2
unfolding following
following_second t = omega arith

pub following_third : (t : ℕ) → following (3 * t + 2) ≡ 3 * t
unfolding following
following_third t = omega arith

-- behind whole triangles they go on as they do alone
pub following_on : (n k : ℕ) → n % 3 ≡ 0 → following (n + k) ≡ n + following k
unfolding following
following_on n k t = omega arith

-- what holds of the three half-edges of every triangle holds of every half-edge
by_place : (P : ℕ → Type 0) (h : ℕ) → P (3 * (h / 3)) → P (3 * (h / 3) + 1) → P (3 * (h / 3) + 2) → P h
by_place P h first second third = go (h % 3) refl
  where
    go : (r : ℕ) → h % 3 ≡ r → P h
    go zero e = let q : 3 * (h / 3) ≡ h = omega arith in subst P q first
    go (suc zero) e = let q : 3 * (h / 3) + 1 ≡ h = omega arith in subst P q second
    go (suc (suc zero)) e = let q : 3 * (h / 3) + 2 ≡ h = omega arith in subst P q third
    go (suc (suc (suc r))) e = absurd (omega arith)

-- three half-edges after h comes h again
pub following_thrice : (h : ℕ) → following (following (following h)) ≡ h
following_thrice h =
    by_place (λ (k : ℕ). following (following (following k)) ≡ k) h
    (rw (following_first, following_second, following_third))
    (rw (following_second, following_third, following_first))
    (rw (following_third, following_first, following_second))

-- ---- half-edges between two points

-- g runs from u to v
pub record Goes (corners : List ℕ) (u v g : ℕ) : Type 0 where
  pub starts : start_of corners g ≡ u
  pub ends : end_of corners g ≡ v

pub goes_says : (corners : List ℕ) (u v g : ℕ) → goes corners u v g ≡ true → Goes corners u v g
unfolding goes
goes_says corners u v g e =
    let b = both_true _ _ e in
    record { starts = eqb-true _ _ b.0; ends = eqb-true _ _ b.1 }

pub goes_from : (corners : List ℕ) (u v g : ℕ) → Goes corners u v g → goes corners u v g ≡ true
unfolding goes
goes_from corners u v g r = rw (eq-eqb _ _ r.starts, eq-eqb _ _ r.ends)

-- a half-edge repeats one that has its two ends in its order
pub repeats_says : (corners : List ℕ) (h : ℕ) → repeats corners h ≡ true → (g : ℕ) × (g < h) × Goes corners (start_of corners h) (end_of corners h) g
unfolding repeats
repeats_says corners h e = let s = any_index _ h e in (s.0, s.2, goes_says _ _ _ s.0 s.3)

pub repeats_from : (corners : List ℕ) (g h : ℕ) → g < h → Goes corners (start_of corners h) (end_of corners h) g → repeats corners h ≡ true
unfolding repeats
repeats_from corners g h l r = index_any _ h g l (goes_from _ _ _ g r)

-- ---- twins and open edges

pub twin_says : (corners : List ℕ) (h g : ℕ) → twin corners h ≡ Some g → (g < length corners) × Goes corners (end_of corners h) (start_of corners h) g
unfolding twin
twin_says corners h g e = let s = least_sound _ _ _ e in (s.0, goes_says _ _ _ g s.1)

pub twin_none : (corners : List ℕ) (h : ℕ) → twin corners h ≡ None → (g : ℕ) → g < length corners → Goes corners (end_of corners h) (start_of corners h) g → ⊥
unfolding twin
twin_none corners h e g l r = true≢false (sym (goes_from _ _ _ g r) ∙ least_never _ _ e g l)

pub open_none : (corners : List ℕ) (h : ℕ) → is_open corners h ≡ true → twin corners h ≡ None
unfolding is_open
open_none corners h e = any_none (twin corners h) (not-true _ e)

pub none_open : (corners : List ℕ) (h : ℕ) → twin corners h ≡ None → is_open corners h ≡ true
unfolding is_open
none_open corners h e = rw e

pub not_open : (corners : List ℕ) (h : ℕ) → is_open corners h ≡ false → (g : ℕ) × (twin corners h ≡ Some g)
unfolding is_open
not_open corners h e = any_some (twin corners h) (not-false _ e)

pub twin_not_open : (corners : List ℕ) (h g : ℕ) → twin corners h ≡ Some g → is_open corners h ≡ false
unfolding is_open
twin_not_open corners h g e = rw e

-- an edge that some half-edge opposes is not open
pub opposed : (corners : List ℕ) (h g : ℕ) → g < length corners → Goes corners (end_of corners h) (start_of corners h) g → is_open corners h ≡ true → ⊥
opposed corners h g l r o = twin_none corners h (open_none corners h o) g l r

-- ---- triangles that name no point twice, and half-edges that repeat none

-- triangle t's corners are three points
pub record ThreePoints (corners : List ℕ) (t : ℕ) : Type 0 where
  pub first : start_of corners (3 * t) ≡ start_of corners (3 * t + 1) → ⊥
  pub second : start_of corners (3 * t + 1) ≡ start_of corners (3 * t + 2) → ⊥
  pub third : start_of corners (3 * t + 2) ≡ start_of corners (3 * t) → ⊥

-- a triangle that names no point twice is one of three points
pub proper_three : (corners : List ℕ) (t : ℕ) → twice corners t ≡ false → ThreePoints corners t
unfolding twice
proper_three corners t p =
    let c = either_false _ _ p in
    let b = either_false _ _ c.0 in
    record { first = eqb-false _ _ b.0; second = eqb-false _ _ b.1; third = eqb-false _ _ c.1 }

-- so no half-edge of it starts where it ends
pub proper_apart : (corners : List ℕ) (h : ℕ) → twice corners (h / 3) ≡ false → start_of corners h ≡ end_of corners h → ⊥
proper_apart corners h p =
    let d = proper_three corners (h / 3) p in
    by_place (λ (k : ℕ). start_of corners k ≡ end_of corners k → ⊥) h
    (λ e. d.first (e ∙ ap (start_of corners) (following_first (h / 3))))
    (λ e. d.second (e ∙ ap (start_of corners) (following_second (h / 3))))
    (λ e. d.third (e ∙ ap (start_of corners) (following_third (h / 3))))

-- where no half-edge below n repeats an earlier one, two below n with the same two ends in the same order are one
module _ (corners : List ℕ) (n : ℕ) (single : (h : ℕ) → h < n → repeats corners h ≡ false) where
  earlier_differs : (g h : ℕ) → g < h → h < n → start_of corners g ≡ start_of corners h → end_of corners g ≡ end_of corners h → ⊥
  earlier_differs g h l m a b = true≢false (sym (repeats_from corners g h l (record { starts = a; ends = b })) ∙ single h m)

  pub one_below : (g h : ℕ) → g < n → h < n → start_of corners g ≡ start_of corners h → end_of corners g ≡ end_of corners h → g ≡ h
  one_below g h lg lh a b =
      let before : g < h → ⊥ = λ l. earlier_differs g h l lh a b in
      let after : h < g → ⊥ = λ l. earlier_differs h g l lg (sym a) (sym b) in
      omega arith

-- ---- surfaces that are not refused

module _ (corners : List ℕ) (sound : Sound corners) where
  pub below_after : (h : ℕ) → h < length corners → following h < length corners
  below_after h l = following_below (length corners) h sound.triples l

  -- no directed edge twice
  pub one_edge : (g h : ℕ) → g < length corners → h < length corners → start_of corners g ≡ start_of corners h → end_of corners g ≡ end_of corners h → g ≡ h
  one_edge = one_below corners (length corners) (least_never (repeats corners) (length corners) sound.single)

  -- two edges with one twin are one edge
  pub twin_inj : (e f g : ℕ) → e < length corners → f < length corners → twin corners e ≡ Some g → twin corners f ≡ Some g → e ≡ f
  twin_inj e f g le lf te tf =
      let p = (twin_says corners e g te).1 in
      let q = (twin_says corners f g tf).1 in
      one_edge e f le lf (sym p.ends ∙ q.ends) (sym p.starts ∙ q.starts)

  -- a half-edge that runs the other way is the twin, as no other does
  pub twin_is : (h g : ℕ) → g < length corners → Goes corners (end_of corners h) (start_of corners h) g → twin corners h ≡ Some g
  twin_is h g l r = go (twin corners h) refl
    where
      go : (f : Option ℕ) → twin corners h ≡ f → twin corners h ≡ Some g
      go (Some k) e =
          let q = twin_says corners h k e in
          e ∙ ap Some (one_edge k g q.0 l (q.1.starts ∙ sym r.starts) (q.1.ends ∙ sym r.ends))
      go None e = absurd (twin_none corners h e g l r)

  -- the twin's twin is the edge itself
  pub twin_back : (h g : ℕ) → h < length corners → twin corners h ≡ Some g → twin corners g ≡ Some h
  twin_back h g l t =
      let r = (twin_says corners h g t).1 in
      twin_is g h l (record { starts = sym r.ends; ends = sym r.starts })

  -- no half-edge starts where it ends
  pub not_still : (h : ℕ) → h < length corners → start_of corners h ≡ end_of corners h → ⊥
  not_still h l = proper_apart corners h (least_never (twice corners) _ sound.proper (h / 3) (let t = sound.triples in omega arith))
