-- The table of turns tells every half-edge's state: what is not open has a turn, below both marks, and an open edge has one of the marks.
use Rattle.std.specs.Prelude.{Option, Some, None}
use mathlib.Core.Path.{◌≡◌, refl, sym, ap, ap₂, ◌∙◌, subst}
use mathlib.Core.Bool.{Bool, true, false, ◌||◌, true≢false, or_assoc, or-false, or-true}
use mathlib.Core.List.{List, [], ◌∷◌, ◌++◌}
use mathlib.Core.Logic.{⊎_elim}
use Prim.Native.Nat.{ℕ, zero, suc, ◌+◌, ◌<◌, ◌≤◌}
use native.Mathlib.Nat.{not-suc-le-zero}
use native.Mathlib.Omega.{arith}
use lib.Dec.{eqb}
use lib.ListN.{length, get_or, set}
use lib.Seq.{get_or-set_same, get_or-set_other}
use borrow.Author.Tests.{eqb-true, eq-eqb, ne_eqb}
use Rattle.base_limits.specs.Limits as limits
use Rattle.surface_rules.specs.Edges.{Sound, following, twin, is_open}
use Rattle.surface_rules.proofs.Laws.Tests.{eq_or_not}
use Rattle.surface_rules.proofs.Laws.Edges.{below_after, twin_says, open_none, none_open, not_open}
use Rattle.surface_twins.specs.Workings.Turns.{open_mark, turn_by, Turns}
use Rattle.loop_rules.specs.Next.{across, step, turn, next}
use Rattle.loop_rules.proofs.Laws.Counts.{Among, among_later}
use Rattle.loop_rules.proofs.Laws.Fan.{Reaches, reach, hand_below}
use Rattle.loop_leaders.specs.Workings.Leading.{walked_mark, jump, Lands, Landing, Landed}
use Rattle.loop_find.specs.Workings.Walking.{holds, turn_now, Turned}

-- ---- what a list holds

pub holds_append : (e : ℕ) (a b : List ℕ) → holds e (a ++ b) ≡ (holds e a || holds e b)
unfolding holds
holds_append e [] b = refl
holds_append e (x ∷ a) b = ap (λ (t : Bool). eqb e x || t) (holds_append e a b) ∙ sym (or_assoc (eqb e x) (holds e a) (holds e b))

pub among_holds : (e : ℕ) (l : List ℕ) → Among e l → holds e l ≡ true
unfolding holds
among_holds e l m = at l m.place m.below m.is
  where
    at : (l : List ℕ) (i : ℕ) → i < length l → get_or l i 0 ≡ e → holds e l ≡ true
    at [] i b q = absurd (not-suc-le-zero b)
    at (x ∷ l) zero b q = rw (eq-eqb e x (sym q))
    at (x ∷ l) (suc i) b q = ap (λ (t : Bool). eqb e x || t) (at l i (omega arith) q) ∙ or-true (eqb e x)

pub holds_among : (e : ℕ) (l : List ℕ) → holds e l ≡ true → Among e l
unfolding holds
holds_among e [] h = absurd (true≢false (sym h))
holds_among e (x ∷ l) h = go (holds_among e l) (eqb e x) refl h
  where
    go : (holds e l ≡ true → Among e l) → (t : Bool) → eqb e x ≡ t → (t || holds e l) ≡ true → Among e (x ∷ l)
    go r true q k = record { place = 0; below = omega arith; is = sym (eqb-true e x q) }
    go r false q k = among_later e x l (r k)

holds_one : (e : ℕ) → holds e (e ∷ []) ≡ true
unfolding holds
holds_one e = rw (eq-eqb e e refl)

holds_other : (e x : ℕ) → (e ≡ x → ⊥) → holds e (x ∷ []) ≡ false
unfolding holds
holds_other e x no' = rw (ne_eqb e x no')

-- ---- the table

pub turned_begins : (corners turns : List ℕ) → Turns corners turns → Turned corners [] turns
unfolding Turns Turned holds
turned_begins corners turns h e l = h e l ∙ go (twin corners e)
  where
    go : (f : Option ℕ) → turn_by f e ≡ turn_now f false e
    go (Some g) = refl
    go None = refl

-- the table with a list that holds the same
pub turned_same : (corners a b turns : List ℕ) → a ≡ b → Turned corners a turns → Turned corners b turns
turned_same corners a b turns q h = subst (λ (w : List ℕ). Turned corners w turns) q h

pub record OpenAt (corners walked turns : List ℕ) (e : ℕ) : Type 0 where
  pub opens : is_open corners e ≡ true
  pub new : holds e walked ≡ false
  pub says : get_or turns e 0 ≡ open_mark + following e

module _ (corners : List ℕ) (sound : Sound corners) (few : length corners ≤ limits.corners) (walked turns : List ℕ) (table : Turned corners walked turns) where
  -- what is not open goes where the turn goes
  pub closed_turn : (e : ℕ) → e < length corners → is_open corners e ≡ false → (get_or turns e 0 ≡ step corners e) × (get_or turns e 0 < walked_mark)
  unfolding Turned step
  closed_turn e l o =
      let t = not_open corners e o in
      let q : get_or turns e 0 ≡ following t.0 = table e l ∙ ap (λ (f : Option ℕ). turn_now f (holds e walked) e) t.1 in
      (q ∙ sym (ap (λ (f : Option ℕ). across f e) t.1), omega (arith, below_after corners sound t.0 (twin_says corners e t.0 t.1).0))

  -- an open edge has a mark
  pub open_mark_lem : (e : ℕ) → e < length corners → is_open corners e ≡ true → walked_mark ≤ get_or turns e 0
  unfolding Turned
  open_mark_lem e l o = go (holds e walked) (table e l ∙ ap (λ (f : Option ℕ). turn_now f (holds e walked) e) (open_none corners e o))
    where
      go : (t : Bool) → get_or turns e 0 ≡ turn_now None t e → walked_mark ≤ get_or turns e 0
      go true q = omega arith
      go false q = omega arith

  -- what stands at least at the mark is open and was not walked
  pub open_at : (e : ℕ) → e < length corners → open_mark ≤ get_or turns e 0 → OpenAt corners walked turns e
  unfolding Turned
  open_at e l m = go (twin corners e) refl (holds e walked) refl
    where
      go : (f : Option ℕ) → twin corners e ≡ f → (t : Bool) → holds e walked ≡ t → OpenAt corners walked turns e
      go (Some g) p t q = let s : get_or turns e 0 ≡ following g = table e l ∙ ap (λ (f : Option ℕ). turn_now f (holds e walked) e) p in absurd (omega (arith, below_after corners sound g (twin_says corners e g p).0))
      go None p true q = let s : get_or turns e 0 ≡ walked_mark = table e l ∙ ap₂ (λ (f : Option ℕ) (t : Bool). turn_now f t e) p q in absurd (omega arith)
      go None p false q = record { opens = none_open corners e p; new = q; says = table e l ∙ ap₂ (λ (f : Option ℕ) (t : Bool). turn_now f t e) p q }

  -- and what stands below it was walked, if it is open
  pub walked_at : (e : ℕ) → e < length corners → get_or turns e 0 < open_mark → is_open corners e ≡ true → Among e walked
  unfolding Turned
  walked_at e l m o = go (holds e walked) refl
    where
      go : (t : Bool) → holds e walked ≡ t → Among e walked
      go true q = holds_among e walked q
      go false q = let s : get_or turns e 0 ≡ open_mark + following e = table e l ∙ ap₂ (λ (f : Option ℕ) (t : Bool). turn_now f t e) (open_none corners e o) q in absurd (omega arith)

  -- one more edge is walked
  pub turned_more : (e : ℕ) → e < length turns → is_open corners e ≡ true → Turned corners (walked ++ (e ∷ [])) (set turns e walked_mark)
  unfolding Turned
  turned_more e l o x m =
      ⊎_elim
      (λ (q : x ≡ e).
      ap (λ (z : ℕ). get_or (set turns e walked_mark) z 0) q
      ∙ get_or-set_same turns e walked_mark 0 l
      ∙ sym (ap₂ (λ (f : Option ℕ) (t : Bool). turn_now f t x) (ap (twin corners) q ∙ open_none corners e o) (holds_append x walked (e ∷ []) ∙ ap (λ (t : Bool). holds x walked || t) (ap (λ (z : ℕ). holds z (e ∷ [])) q ∙ holds_one e) ∙ or-true (holds x walked))))
      (λ (q : x ≡ e → ⊥).
      get_or-set_other turns e x walked_mark 0 q
      ∙ table x m
      ∙ ap (λ (t : Bool). turn_now (twin corners x) t x) (sym (holds_append x walked (e ∷ []) ∙ ap (λ (t : Bool). holds x walked || t) (holds_other x e q) ∙ or-false (holds x walked))))
      (eq_or_not x e)

  module _ (long : length corners ≤ length turns) (e : ℕ) (l : e < length corners) (o : is_open corners e ≡ true) where
    -- up to the open edge the table goes where the turn goes
    jump_turn : (k : ℕ) → Reaches corners e k → (i : ℕ) → i ≤ k → jump turns i (following e) ≡ turn corners i (following e)
    unfolding jump turn
    jump_turn k r zero m = refl
    jump_turn k r (suc i) m = ap (λ (z : ℕ). get_or turns z 0) (jump_turn k r i (omega arith)) ∙ (closed_turn (turn corners i (following e)) (hand_below corners sound e l i) (r.closed i m)).0

    reach_lands : (k : ℕ) → Reaches corners e k → Lands turns (following e) k
    reach_lands k r =
        record {
          within = let w = r.within in omega arith;
          below = λ i m. let q : jump turns i (following e) ≡ turn corners i (following e) = jump_turn k r i m in let b : turn corners i (following e) < length corners = hand_below corners sound e l i in omega arith;
          closed = λ i m. let q : jump turns i (following e) ≡ turn corners i (following e) = jump_turn k r i (omega arith) in rw q (closed_turn (turn corners i (following e)) (hand_below corners sound e l i) (r.closed i m)).1;
          opens = let q : jump turns k (following e) ≡ turn corners k (following e) = jump_turn k r k (omega arith) in rw q (open_mark_lem (turn corners k (following e)) (hand_below corners sound e l k) r.opens);
        }

    pub landing : Landing turns (following e)
    landing = let r = reach corners sound e l o in record { steps = r.0; lands = reach_lands r.0 r.1 }

    pub landed_next : (x : ℕ) → Landed turns (following e) x → x ≡ next corners e
    unfolding Landed
    landed_next x h =
        let r = reach corners sound e l o in
        h r.0 (reach_lands r.0 r.1) ∙ jump_turn r.0 r.1 r.0 (omega arith) ∙ sym r.1.lands
