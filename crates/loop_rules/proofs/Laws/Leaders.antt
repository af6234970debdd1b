-- Every open edge lies in the cycle of one leader, its cycle's smallest edge: cycles that share an edge are one cycle, and one cycle has one smallest edge.
use mathlib.Core.Path.{◌≡◌, refl, sym, ap, ◌∙◌, subst}
use mathlib.Core.Bool.{Bool, true}
use mathlib.Core.List.{List, [], ◌∷◌}
use mathlib.Core.Logic.{◌⊎◌, inl, inr, ⊎_elim}
use Prim.Native.Nat.{ℕ, zero, suc, ◌+◌, ◌-◌, ◌<◌, ◌≤◌}
use native.Mathlib.Nat.{not-suc-le-zero, le_refl, le_of_suc-le-suc, eq-or-lt_of_le}
use native.Mathlib.Omega.{arith}
use lib.Dec.{leb}
use lib.ListN.{length, get_or}
use borrow.Author.Tests.{leb-true, le-leb}
use Rattle.surface_rules.specs.Edges.{Sound, is_open}
use Rattle.surface_rules.proofs.Laws.Tests.{both_true, lt_or_le}
use Rattle.loop_rules.specs.Next.{next}
use Rattle.loop_rules.specs.Loops.{cycle, leads, all}
use Rattle.loop_rules.proofs.Laws.Cycles.{ahead, ahead_add, ahead_back, ahead_below, ahead_open, cycle_some, cycle_at, cycle_closes, cycle_holds}

-- `all` is each
pub all_at : (p : ℕ → Bool) (l : List ℕ) → all p l ≡ true → (i : ℕ) → i < length l → p (get_or l i 0) ≡ true
all_at p [] t i m = absurd (not-suc-le-zero m)
all_at p (x ∷ xs) t zero m = (both_true (p x) (all p xs) t).0
all_at p (x ∷ xs) t (suc i) m = all_at p xs (both_true (p x) (all p xs) t).1 i (le_of_suc-le-suc m)

pub at_all : (p : ℕ → Bool) (l : List ℕ) → ((i : ℕ) → i < length l → p (get_or l i 0) ≡ true) → all p l ≡ true
at_all p [] w = refl
at_all p (x ∷ xs) w = rw (w zero (omega arith), at_all p xs (λ i m. w (suc i) (omega arith)))

-- of the values of f up to n one is the smallest
smallest : (f : ℕ → ℕ) (n : ℕ) → (r : ℕ) × (r ≤ n) × ((i : ℕ) → i ≤ n → f r ≤ f i)
smallest f zero = (zero, le_refl zero, λ i l. let e : zero ≡ i = omega arith in subst (λ (x : ℕ). f zero ≤ f x) e (le_refl (f zero)))
smallest f (suc n) =
    let s = smallest f n in
    ⊎_elim
    (λ (m : f s.0 < f (suc n)). (
      s.0,
      omega (arith, s.1),
      λ i l.
          ⊎_elim (λ (e : i ≡ suc n). let q : f (suc n) ≡ f i = ap f (sym e) in omega arith) (λ (k : i < suc n). s.2 i (le_of_suc-le-suc k)) (eq-or-lt_of_le l),
    ))
    (λ (m : f (suc n) ≤ f s.0). (
      suc n,
      le_refl (suc n),
      λ i l.
          ⊎_elim (λ (e : i ≡ suc n). let q : f (suc n) ≡ f i = ap f (sym e) in omega arith)
          (λ (k : i < suc n). let q : f s.0 ≤ f i = s.2 i (le_of_suc-le-suc k) in omega arith)
          (eq-or-lt_of_le l),
    ))
    (lt_or_le (f s.0) (f (suc n)))

pub leads_open : (corners : List ℕ) (h : ℕ) → leads corners h ≡ true → is_open corners h ≡ true
unfolding leads
leads_open corners h t = (both_true (is_open corners h) _ t).0

-- the edges of a leader's cycle are not below the leader
pub leads_least : (corners : List ℕ) (h : ℕ) → leads corners h ≡ true → (i : ℕ) → i < length (cycle corners h) → h ≤ get_or (cycle corners h) i 0
unfolding leads
leads_least corners h t i l = leb-true _ _ (all_at (leb h) (cycle corners h) (both_true (is_open corners h) _ t).1 i l)

pub least_leads : (corners : List ℕ) (h : ℕ) → is_open corners h ≡ true → ((i : ℕ) → i < length (cycle corners h) → h ≤ get_or (cycle corners h) i 0) → leads corners h ≡ true
unfolding leads
least_leads corners h o w = rw (o, at_all (leb h) (cycle corners h) (λ i l. le-leb _ _ (w i l)))

-- e stands in the cycle of g, and g leads it
pub record Led (corners : List ℕ) (e g : ℕ) : Type 0 where
  pub below : g < length corners
  pub leading : leads corners g ≡ true
  pub place : ℕ
  pub within : place < length (cycle corners g)
  pub there : get_or (cycle corners g) place 0 ≡ e

module _ (corners : List ℕ) (sound : Sound corners) where
  -- of two edges that lead to one edge, one leads to the other
  meets : (g h : ℕ) → g < length corners → h < length corners → is_open corners g ≡ true → is_open corners h ≡ true
      → (i j : ℕ) → ahead corners i g ≡ ahead corners j h
      → ((m : ℕ) × (ahead corners m h ≡ g)) ⊎ ((m : ℕ) × (ahead corners m g ≡ h))
  unfolding ahead
  meets g h lg lh og oh zero j e = inl (j, sym e)
  meets g h lg lh og oh (suc i) zero e = inr (suc i, e)
  meets g h lg lh og oh (suc i) (suc j) e = meets g h lg lh og oh i j (ahead_back corners sound g h lg lh og oh i j e)

  -- and the other leads back to it, round the cycle
  pub ahead_round : (g h : ℕ) → g < length corners → is_open corners g ≡ true → (m : ℕ) → ahead corners m g ≡ h → (n : ℕ) × (ahead corners n h ≡ g)
  unfolding ahead
  ahead_round g h lg og m e =
      let c = cycle_holds corners sound g lg og m in
      let n : ℕ = length (cycle corners g) - 1 - c.0 in
      let s : n + c.0 ≡ length (cycle corners g) - 1 = omega (arith, c.1) in
      let f : ahead corners c.0 g ≡ h = sym (cycle_at corners sound g lg og c.0 c.1) ∙ c.2 ∙ e in
      (suc n, ap (λ (x : ℕ). next corners (ahead corners n x)) (sym f) ∙ ap (next corners) (ahead_add corners g n c.0 _ s) ∙ cycle_closes corners sound g lg og)

  -- a leader is at most every edge ahead of it
  pub leader_least : (h : ℕ) → h < length corners → leads corners h ≡ true → (m : ℕ) → h ≤ ahead corners m h
  leader_least h l t m =
      let c = cycle_holds corners sound h l (leads_open corners h t) m in
      subst (λ (x : ℕ). h ≤ x) c.2 (leads_least corners h t c.0 c.1)

  -- leaders whose edges meet are one
  one_leader : (g h : ℕ) → g < length corners → h < length corners → leads corners g ≡ true → leads corners h ≡ true
      → (i j : ℕ) → ahead corners i g ≡ ahead corners j h → g ≡ h
  one_leader g h lg lh tg th i j e =
      let og = leads_open corners g tg in
      let oh = leads_open corners h th in
      let both : (a b : ℕ) → ahead corners a h ≡ g → ahead corners b g ≡ h → g ≡ h =
      λ a b p q. omega (arith, leader_least h lh th a, leader_least g lg tg b) in
      ⊎_elim
      (λ w. let r = ahead_round h g lh oh w.0 w.1 in both w.0 r.0 w.1 r.1)
      (λ w. let r = ahead_round g h lg og w.0 w.1 in both r.0 w.0 r.1 w.1)
      (meets g h lg lh og oh i j e)

  -- two leaders' cycles that share an edge are the same leader's
  pub leader_once : (g h : ℕ) → g < length corners → h < length corners → leads corners g ≡ true → leads corners h ≡ true
      → (i j : ℕ) → i < length (cycle corners g) → j < length (cycle corners h)
      → get_or (cycle corners g) i 0 ≡ get_or (cycle corners h) j 0
      → g ≡ h
  leader_once g h lg lh tg th i j li lj e =
      one_leader g h lg lh tg th i j
      (sym (cycle_at corners sound g lg (leads_open corners g tg) i li) ∙ e ∙ cycle_at corners sound h lh (leads_open corners h th) j lj)

  -- every open edge lies in the cycle of a leader, the smallest edge of its own cycle
  pub leader_of : (h : ℕ) → h < length corners → is_open corners h ≡ true → (g : ℕ) × Led corners h g
  leader_of h l o =
      let s = smallest (λ k. get_or (cycle corners h) k 0) (length (cycle corners h) - 1) in
      let n = cycle_some corners sound h l o in
      let r : ℕ = s.0 in
      let g : ℕ = ahead corners r h in
      let lr : r < length (cycle corners h) = omega (arith, s.1) in
      let lg : g < length corners = ahead_below corners sound h l r in
      let og : is_open corners g ≡ true = ahead_open corners sound h l o r in
      let at : get_or (cycle corners h) r 0 ≡ g = cycle_at corners sound h l o r lr in
      let least_g : (i : ℕ) → i < length (cycle corners g) → g ≤ get_or (cycle corners g) i 0 =
      λ i li.
      let c = cycle_holds corners sound h l o (i + r) in
      let e : get_or (cycle corners g) i 0 ≡ get_or (cycle corners h) c.0 0 =
      cycle_at corners sound g lg og i li ∙ ahead_add corners h i r (i + r) refl ∙ sym c.2 in
      let m : get_or (cycle corners h) r 0 ≤ get_or (cycle corners h) c.0 0 = s.2 c.0 (omega (arith, c.1)) in
      omega arith in
      let back = ahead_round h g l o r refl in
      let c = cycle_holds corners sound g lg og back.0 in
      (g, record { below = lg; leading = least_leads corners g og least_g; place = c.0; within = c.1; there = c.2 ∙ back.1 })
