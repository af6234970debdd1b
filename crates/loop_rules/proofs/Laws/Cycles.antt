-- The open edges fall into cycles: next is one-to-one, so the first edge that comes a second time on the way from h is h itself.
use Rattle.std.specs.Prelude.{Option, Some, None}
use mathlib.Core.Path.{◌≡◌, refl, sym, ap, ◌∙◌}
use mathlib.Core.Bool.{Bool, true, false, cond}
use mathlib.Core.List.{List, [], ◌∷◌}
use mathlib.Core.Logic.{⊎_elim}
use Prim.Native.Nat.{ℕ, zero, suc, ◌+◌, ◌-◌, ◌<◌, ◌≤◌, zero-le}
use native.Mathlib.Nat.{not-suc-le-zero, le_refl, le_of_suc-le-suc, eq-or-lt_of_le}
use native.Mathlib.Omega.{arith}
use lib.Dec.{eqb}
use lib.ListN.{length, get_or}
use borrow.Author.Tests.{eqb-true, eqb-false, eq-eqb}
use Rattle.surface_rules.specs.Smallest.{least}
use Rattle.surface_rules.specs.Edges.{Sound, is_open}
use Rattle.surface_rules.proofs.Laws.Smallest.{least_never, least_sound, least_first}
use Rattle.loop_rules.specs.Next.{next}
use Rattle.loop_rules.specs.Loops.{around, cycle}
use Rattle.loop_rules.proofs.Laws.Pigeon.{crowded}
use Rattle.loop_rules.proofs.Laws.Distinct.{Distinct, Bounded}
use Rattle.loop_rules.proofs.Laws.Fan.{next_open, next_inj, next_below}

-- ---- the edges ahead of an edge

-- the edge k after h
unfoldable pub ahead : List ℕ → ℕ → ℕ → ℕ
ahead corners zero h = h
ahead corners (suc k) h = next corners (ahead corners k h)

-- k edges from e on
unfoldable pub upto : List ℕ → ℕ → ℕ → List ℕ
upto corners zero e = []
upto corners (suc k) e = e ∷ upto corners k (next corners e)

pub ahead_add : (corners : List ℕ) (h a b c : ℕ) → a + b ≡ c → ahead corners a (ahead corners b h) ≡ ahead corners c h
unfolding ahead
ahead_add corners h zero b c e = let f : b ≡ c = omega arith in ap (λ (x : ℕ). ahead corners x h) f
ahead_add corners h (suc a) b zero e = absurd (omega arith)
ahead_add corners h (suc a) b (suc c) e = ap (next corners) (ahead_add corners h a b c (omega arith))

ahead_next : (corners : List ℕ) (k e : ℕ) → ahead corners k (next corners e) ≡ ahead corners (suc k) e
unfolding ahead
ahead_next corners zero e = refl
ahead_next corners (suc k) e = ap (next corners) (ahead_next corners k e)

pub upto_length : (corners : List ℕ) (k e : ℕ) → length (upto corners k e) ≡ k
unfolding upto
upto_length corners zero e = refl
upto_length corners (suc k) e = ap suc (upto_length corners k (next corners e))

pub upto_at : (corners : List ℕ) (k e i : ℕ) → i < k → get_or (upto corners k e) i 0 ≡ ahead corners i e
unfolding upto ahead
upto_at corners zero e i l = absurd (not-suc-le-zero l)
upto_at corners (suc k) e zero l = refl
upto_at corners (suc k) e (suc i) l = upto_at corners k (next corners e) i (le_of_suc-le-suc l) ∙ ahead_next corners i e

-- p edges after h comes one whose next is h, and none before it
pub record Period (corners : List ℕ) (h p : ℕ) : Type 0 where
  pub short : p < length corners
  pub closes : ahead corners (suc p) h ≡ h
  pub first : (k : ℕ) → k < p → eqb (ahead corners (suc k) h) h ≡ false

module _ (corners : List ℕ) (sound : Sound corners) where
  pub ahead_below : (h : ℕ) → h < length corners → (k : ℕ) → ahead corners k h < length corners
  unfolding ahead
  ahead_below h l zero = l
  ahead_below h l (suc k) = next_below corners sound (ahead corners k h) (ahead_below h l k)

  pub ahead_open : (h : ℕ) → h < length corners → is_open corners h ≡ true → (k : ℕ) → is_open corners (ahead corners k h) ≡ true
  unfolding ahead
  ahead_open h l o zero = o
  ahead_open h l o (suc k) = next_open corners sound (ahead corners k h) (ahead_below h l k) (ahead_open h l o k)

  -- equal edges have equal ones before them
  pub ahead_back : (g h : ℕ) → g < length corners → h < length corners → is_open corners g ≡ true → is_open corners h ≡ true
      → (i j : ℕ) → ahead corners (suc i) g ≡ ahead corners (suc j) h → ahead corners i g ≡ ahead corners j h
  unfolding ahead
  ahead_back g h lg lh og oh i j e =
      next_inj corners sound _ _ (ahead_below g lg i) (ahead_below h lh j) (ahead_open g lg og i) (ahead_open h lh oh j) e

  module _ (h : ℕ) (lh : h < length corners) (oh : is_open corners h ≡ true) where
    -- until h comes again, no edge comes twice
    new : (i j : ℕ) → i < j → ((k : ℕ) → k < j → eqb (ahead corners (suc k) h) h ≡ false) → ahead corners i h ≡ ahead corners j h → ⊥
    unfolding ahead
    new i zero l w e = not-suc-le-zero l
    new zero (suc j) l w e = eqb-false _ _ (w j (le_refl (suc j))) (sym e)
    new (suc i) (suc j) l w e = new i j (le_of_suc-le-suc l) (λ k m. w k (omega arith)) (ahead_back h h lh lh oh oh i j e)

    -- So h comes again, as there are only so many half-edges.
    pub period : (p : ℕ) × Period corners h p
    period = go (least (λ (k : ℕ). eqb (ahead corners (suc k) h) h) (length corners)) refl
      where
        go : (f : Option ℕ) → least (λ (k : ℕ). eqb (ahead corners (suc k) h) h) (length corners) ≡ f → (p : ℕ) × Period corners h p
        go (Some p) e = let s = least_sound _ _ _ e in (p, record { short = s.0; closes = eqb-true _ _ s.1; first = least_first _ _ _ e })
        go None e =
            absurd
            (crowded (length corners) (λ k. ahead corners k h) (λ i l. ahead_below h lh i)
            (λ i j l m q. new i j l (λ k n. least_never _ _ e k (omega arith)) q))

    -- every edge ahead of h is one of the cycle's
    again : (p : ℕ) → Period corners h p → (m : ℕ) → (r : ℕ) × (r ≤ p) × (ahead corners r h ≡ ahead corners m h)
    unfolding ahead
    again p q zero = (zero, zero-le, refl)
    again p q (suc m) =
        let s = again p q m in
        ⊎_elim
        (λ (e : s.0 ≡ p). (zero, zero-le, sym (ap (next corners) (sym s.2) ∙ ap (λ (x : ℕ). next corners (ahead corners x h)) e ∙ q.closes)))
        (λ (l : s.0 < p). (suc s.0, l, ap (next corners) s.2))
        (eq-or-lt_of_le s.1)

    -- ---- the cycle of h, as it is listed

    around_is : (p : ℕ) → Period corners h p → (d k j : ℕ) → j + d ≡ p → d < k → around corners k h (ahead corners j h) ≡ upto corners (suc d) (ahead corners j h)
    unfolding around ahead upto
    around_is p q d zero j e l = absurd (not-suc-le-zero l)
    around_is p q zero (suc k) j e l =
        let f : j ≡ p = omega arith in
        ap (λ (t : Bool). ahead corners j h ∷ cond t [] (around corners k h (next corners (ahead corners j h))))
        (eq-eqb _ _ (ap (λ (x : ℕ). next corners (ahead corners x h)) f ∙ q.closes))
    around_is p q (suc d) (suc k) j e l =
        ap (λ (t : Bool). ahead corners j h ∷ cond t [] (around corners k h (next corners (ahead corners j h)))) (q.first j (omega arith))
        ∙ ap (λ (r : List ℕ). ahead corners j h ∷ r) (around_is p q d k (suc j) (omega arith) (le_of_suc-le-suc l))

    cycle_upto : (p : ℕ) → Period corners h p → cycle corners h ≡ upto corners (suc p) h
    unfolding cycle ahead
    cycle_upto p q = around_is p q p (length corners) 0 (omega arith) q.short

    pub cycle_length : (p : ℕ) → Period corners h p → length (cycle corners h) ≡ suc p
    cycle_length p q = ap length (cycle_upto p q) ∙ upto_length corners (suc p) h

    -- it has an edge, and no more than there are half-edges
    pub cycle_some : 0 < length (cycle corners h)
    cycle_some = let q = period in omega (arith, cycle_length q.0 q.1)

    pub cycle_short : length (cycle corners h) ≤ length corners
    cycle_short = let q = period in omega (arith, cycle_length q.0 q.1, q.1.short)

    -- each edge is the next of the one before, and the last one's next is h
    pub cycle_is : cycle corners h ≡ upto corners (length (cycle corners h)) h
    cycle_is =
        let q = period in
        cycle_upto q.0 q.1 ∙ ap (λ (n : ℕ). upto corners n h) (sym (cycle_length q.0 q.1))

    pub cycle_at : (i : ℕ) → i < length (cycle corners h) → get_or (cycle corners h) i 0 ≡ ahead corners i h
    cycle_at i l = ap (λ (r : List ℕ). get_or r i 0) cycle_is ∙ upto_at corners (length (cycle corners h)) h i l

    pub cycle_closes : next corners (ahead corners (length (cycle corners h) - 1) h) ≡ h
    unfolding ahead
    cycle_closes =
        let q = period in
        let n : length (cycle corners h) - 1 ≡ q.0 = omega (arith, cycle_length q.0 q.1) in
        ap (λ (x : ℕ). next corners (ahead corners x h)) n ∙ q.1.closes

    -- no other edge's next is h
    pub cycle_goes_on : (i : ℕ) → i + 1 < length (cycle corners h) → next corners (ahead corners i h) ≡ h → ⊥
    unfolding ahead
    cycle_goes_on i l =
        let q = period in
        eqb-false _ _ (q.1.first i (omega (arith, cycle_length q.0 q.1)))

    pub cycle_begins : get_or (cycle corners h) 0 0 ≡ h
    unfolding ahead
    cycle_begins = cycle_at 0 cycle_some

    pub cycle_open : (i : ℕ) → i < length (cycle corners h) → is_open corners (get_or (cycle corners h) i 0) ≡ true
    cycle_open i l = rw (cycle_at i l) (ahead_open h lh oh i)

    pub cycle_bounded : Bounded (length corners) (cycle corners h)
    unfolding Bounded
    cycle_bounded i l = rw (cycle_at i l) (ahead_below h lh i)

    -- every edge ahead of h stands in the cycle
    pub cycle_holds : (m : ℕ) → (i : ℕ) × (i < length (cycle corners h)) × (get_or (cycle corners h) i 0 ≡ ahead corners m h)
    cycle_holds m =
        let q = period in
        let s = again q.0 q.1 m in
        let l : s.0 < length (cycle corners h) = omega (arith, cycle_length q.0 q.1, s.1) in
        (s.0, l, cycle_at s.0 l ∙ s.2)

    -- nothing stands in it twice
    pub cycle_distinct : Distinct (cycle corners h)
    unfolding Distinct
    cycle_distinct i j li lj e =
        let q = period in
        let n : length (cycle corners h) ≡ suc q.0 = cycle_length q.0 q.1 in
        let f : ahead corners i h ≡ ahead corners j h = sym (cycle_at i li) ∙ e ∙ cycle_at j lj in
        let before : i < j → ⊥ = λ l. new i j l (λ k m. q.1.first k (omega arith)) f in
        let after : j < i → ⊥ = λ l. new j i l (λ k m. q.1.first k (omega arith)) (sym f) in
        omega arith
