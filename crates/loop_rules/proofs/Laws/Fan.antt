-- Next is one-to-one on the open edges: each step of a turn can be taken back, no step leads to the edge where a turn begins, so a turn never repeats an edge and ends.
use Rattle.std.specs.Prelude.{Option, Some, None}
use mathlib.Core.Path.{◌≡◌, refl, sym, ap, ◌∙◌}
use mathlib.Core.Bool.{true, false}
use mathlib.Core.List.{List}
use Prim.Native.Nat.{ℕ, zero, suc, ◌<◌, ◌≤◌}
use native.Mathlib.Nat.{le_refl, le_of_suc-le-suc}
use native.Mathlib.Decide.{le_ind}
use native.Mathlib.Omega.{arith}
use lib.ListN.{length}
use Rattle.surface_rules.specs.Smallest.{least}
use Rattle.surface_rules.specs.Edges.{Sound, following, start_of, end_of, twin, is_open}
use Rattle.surface_rules.proofs.Laws.Smallest.{least_never, least_sound, least_first}
use Rattle.surface_rules.proofs.Laws.Edges.{following_inj, below_after, twin_says, open_none, not_open, opposed, twin_inj}
use Rattle.loop_rules.specs.Next.{across, step, turn, next}
use Rattle.loop_rules.proofs.Laws.Pigeon.{crowded}

-- ---- a turn that came to an open edge stays there

pub turn_stays : (corners : List ℕ) (k n e a : ℕ) → e ≡ turn corners k a → twin corners e ≡ None → k ≤ n → e ≡ turn corners n a
unfolding turn step
turn_stays corners k n e a h t l = le_ind (λ (m : ℕ). e ≡ turn corners m a) h (λ m q p. rw (← p, t)) n l

-- ---- one step

-- an edge that is not open has a twin, by which its step goes
steps_by : (corners : List ℕ) (e : ℕ) → is_open corners e ≡ false → (g : ℕ) × (twin corners e ≡ Some g) × (step corners e ≡ following g)
unfolding step
steps_by corners e h = let t = not_open corners e h in (t.0, t.1, ap (λ (f : Option ℕ). across f e) t.1)

-- a step keeps the vertex
pub step_start : (corners : List ℕ) (e : ℕ) → start_of corners (step corners e) ≡ start_of corners e
unfolding step
step_start corners e = go (twin corners e) refl
  where
    go : (f : Option ℕ) → twin corners e ≡ f → start_of corners (across f e) ≡ start_of corners e
    go (Some g) d = (twin_says corners e g d).1.ends
    go None d = refl

-- so the next edge starts where h ends
pub next_start : (corners : List ℕ) (h : ℕ) → start_of corners (next corners h) ≡ end_of corners h
unfolding next turn
next_start corners h = go (length corners)
  where
    go : (k : ℕ) → start_of corners (turn corners k (following h)) ≡ end_of corners h
    go zero = refl
    go (suc k) = step_start corners (turn corners k (following h)) ∙ go k

-- the turn from h came to the next edge in k steps, and to no open one before
pub record Reaches (corners : List ℕ) (h k : ℕ) : Type 0 where
  pub within : k ≤ length corners
  pub lands : next corners h ≡ turn corners k (following h)
  pub opens : is_open corners (turn corners k (following h)) ≡ true
  pub closed : (i : ℕ) → i < k → is_open corners (turn corners i (following h)) ≡ false

module _ (corners : List ℕ) (sound : Sound corners) where
  -- a step can be taken back
  step_inj : (e f : ℕ) → e < length corners → f < length corners → is_open corners e ≡ false → is_open corners f ≡ false → step corners e ≡ step corners f → e ≡ f
  step_inj e f le lf oe of q =
      let a = steps_by corners e oe in
      let b = steps_by corners f of in
      let g : a.0 ≡ b.0 = following_inj _ _ (sym a.2 ∙ q ∙ b.2) in
      twin_inj corners sound e f b.0 le lf (a.1 ∙ ap Some g) b.1

  step_below : (e : ℕ) → e < length corners → step corners e < length corners
  unfolding step
  step_below e l = go (twin corners e) refl
    where
      go : (f : Option ℕ) → twin corners e ≡ f → across f e < length corners
      go (Some g) d = below_after corners sound g (twin_says corners e g d).0
      go None d = l

  pub turn_below : (e : ℕ) → e < length corners → (k : ℕ) → turn corners k e < length corners
  unfolding turn
  turn_below e l zero = l
  turn_below e l (suc k) = step_below (turn corners k e) (turn_below e l k)

  pub next_below : (h : ℕ) → h < length corners → next corners h < length corners
  unfolding next
  next_below h l = turn_below (following h) (below_after corners sound h l) (length corners)

  -- No step leads to the edge after an open h: it would come from h's twin.
  fresh : (h e : ℕ) → e < length corners → is_open corners h ≡ true → is_open corners e ≡ false → step corners e ≡ following h → ⊥
  fresh h e le oh oe q =
      let a = steps_by corners e oe in
      let g : a.0 ≡ h = following_inj _ _ (sym a.2 ∙ q) in
      let o = (twin_says corners e a.0 a.1).1 in
      opposed corners h e le (record { starts = sym o.ends ∙ ap (end_of corners) g; ends = sym o.starts ∙ ap (start_of corners) g }) oh

  -- ---- the turn from h

  -- the edge in hand after k steps
  abbrev hand : ℕ → ℕ → ℕ
  hand h k = turn corners k (following h)

  pub hand_below : (h : ℕ) → h < length corners → (k : ℕ) → hand h k < length corners
  hand_below h l k = turn_below (following h) (below_after corners sound h l) k

  -- Two turns that meet began at one edge: step by step back, they meet at the beginning of one of them, and by `fresh` of both.
  meet : (g h : ℕ) → g < length corners → h < length corners → is_open corners g ≡ true → is_open corners h ≡ true
      → (i j : ℕ)
      → ((k : ℕ) → k < i → is_open corners (hand g k) ≡ false)
      → ((k : ℕ) → k < j → is_open corners (hand h k) ≡ false)
      → hand g i ≡ hand h j
      → (g ≡ h) × (i ≡ j)
  unfolding turn
  meet g h lg lh og oh zero zero wg wh e = (following_inj g h e, refl)
  meet g h lg lh og oh zero (suc j) wg wh e = absurd (fresh g (hand h j) (hand_below h lh j) og (wh j (le_refl (suc j))) (sym e))
  meet g h lg lh og oh (suc i) zero wg wh e = absurd (fresh h (hand g i) (hand_below g lg i) oh (wg i (le_refl (suc i))) e)
  meet g h lg lh og oh (suc i) (suc j) wg wh e =
      let m = meet g h lg lh og oh i j (λ k m. wg k (omega arith)) (λ k m. wh k (omega arith))
      (step_inj (hand g i) (hand h j) (hand_below g lg i) (hand_below h lh j) (wg i (le_refl (suc i))) (wh j (le_refl (suc j))) e) in
      (m.0, ap suc m.1)

  module _ (h : ℕ) (lh : h < length corners) (oh : is_open corners h ≡ true) where
    -- while it is not open, no edge comes into hand twice
    differ : (i j : ℕ) → i < j → ((k : ℕ) → k < j → is_open corners (hand h k) ≡ false) → hand h i ≡ hand h j → ⊥
    differ i j l w e =
        let q : i ≡ j = (meet h h lh lh oh oh i j (λ k m. w k (omega arith)) w e).1 in
        omega arith

    -- So an open edge comes into hand, as there are only so many half-edges, and it stays there.
    pub reach : (k : ℕ) × Reaches corners h k
    unfolding next
    reach = go (least (λ (i : ℕ). is_open corners (hand h i)) (suc (length corners))) refl
      where
        go : (f : Option ℕ) → least (λ (i : ℕ). is_open corners (hand h i)) (suc (length corners)) ≡ f → (k : ℕ) × Reaches corners h k
        go (Some k) e =
            let s = least_sound _ _ _ e in
            let w : k ≤ length corners = le_of_suc-le-suc s.0 in
            let stays = turn_stays corners k (length corners) (hand h k) (following h) refl (open_none corners (hand h k) s.1) w in
            (k, record { within = w; lands = sym stays; opens = s.1; closed = least_first _ _ _ e })
        go None e =
            absurd
            (crowded (length corners) (hand h) (λ i l. hand_below h lh i)
            (λ i j l m q. differ i j l (λ k n. least_never _ _ e k (omega arith)) q))

    -- the turn always reaches an open edge
    pub next_open : is_open corners (next corners h) ≡ true
    next_open = let r = reach in ap (is_open corners) r.1.lands ∙ r.1.opens

  -- next is one-to-one on the open edges
  pub next_inj : (g h : ℕ) → g < length corners → h < length corners → is_open corners g ≡ true → is_open corners h ≡ true → next corners g ≡ next corners h → g ≡ h
  next_inj g h lg lh og oh e =
      let a = reach g lg og in
      let b = reach h lh oh in
      (meet g h lg lh og oh a.0 b.0 a.1.closed b.1.closed (sym a.1.lands ∙ e ∙ b.1.lands)).0
