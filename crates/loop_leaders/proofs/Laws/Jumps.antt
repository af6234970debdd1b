-- Turns taken by the table, one at a time, come to the open edge that it leads to: no one before it is open, so each turn is one less to go.
use mathlib.Core.Path.{◌≡◌, refl, ap, ◌∙◌}
use mathlib.Core.Bool.{cond}
use mathlib.Core.List.{List}
use mathlib.Core.Logic.{⊎_elim}
use Prim.Native.Nat.{ℕ, zero, suc, ◌+◌, ◌-◌, ◌<◌, ◌≤◌}
use native.Mathlib.Nat.{not-suc-le-zero, eq-or-lt_of_le}
use native.Mathlib.Omega.{arith}
use lib.Dec.{ltb}
use lib.ListN.{length, get_or}
use borrow.Author.Tests.{lt-ltb, le-ltb}
use Rattle.loop_leaders.specs.Workings.Leading.{walked_mark, jump, Lands, Landing, Landed}

jump_first : (turns : List ℕ) (k e : ℕ) → jump turns k (get_or turns e 0) ≡ jump turns (suc k) e
unfolding jump
jump_first turns zero e = refl
jump_first turns (suc k) e = ap (λ (z : ℕ). get_or turns z 0) (jump_first turns k e)

-- how many turns it takes from e to an open edge, at most n
unfoldable pub away : List ℕ → ℕ → ℕ → ℕ
away turns zero e = 0
away turns (suc n) e = let rest = away turns n (get_or turns e 0) in cond (ltb (get_or turns e 0) walked_mark) (suc rest) 0

away_is : (turns : List ℕ) (n m e : ℕ) → m ≤ n → ((i : ℕ) → i < m → get_or turns (jump turns i e) 0 < walked_mark) → walked_mark ≤ get_or turns (jump turns m e) 0 → away turns n e ≡ m
unfolding away jump
away_is turns zero zero e l c o = refl
away_is turns zero (suc m) e l c o = absurd (not-suc-le-zero l)
away_is turns (suc n) zero e l c o = rw (le-ltb _ _ o)
away_is turns (suc n) (suc m) e l c o =
    let r : away turns n (get_or turns e 0) ≡ m = away_is turns n m (get_or turns e 0) (omega arith) (λ i k. rw (jump_first turns i e) (c (suc i) (omega arith))) (rw (jump_first turns m e) o) in
    rw (lt-ltb _ _ (c 0 (omega arith)), r)

jump_add : (turns : List ℕ) (f a b c : ℕ) → a + b ≡ c → jump turns a (jump turns b f) ≡ jump turns c f
unfolding jump
jump_add turns f zero b c q = let z : b ≡ c = omega arith in ap (λ (x : ℕ). jump turns x f) z
jump_add turns f (suc a) b zero q = absurd (omega arith)
jump_add turns f (suc a) b (suc c) q = ap (λ (z : ℕ). get_or turns z 0) (jump_add turns f a b c (omega arith))

-- the edge that the turns from f have come to
unfoldable pub Jumps : List ℕ → ℕ → ℕ → Type 0
Jumps turns f e = (k : ℕ) → Lands turns f k → (i : ℕ) × (i ≤ k) × (e ≡ jump turns i f)

pub jumps_begin : (turns : List ℕ) (f : ℕ) → Jumps turns f f
unfolding Jumps jump
jumps_begin turns f k h = (0, omega arith, refl)

module _ (turns : List ℕ) (f e : ℕ) (h : Jumps turns f e) where
  pub jumps_below : Landing turns f → e < length turns
  unfolding Jumps
  jumps_below p = let w = h p.steps p.lands in rw w.2 (p.lands.below w.0 w.1)

  -- where e is not open, the open edge is still to come
  to_come : get_or turns e 0 < walked_mark → (k : ℕ) → Lands turns f k → (i : ℕ) × (i < k) × (e ≡ jump turns i f)
  unfolding Jumps
  to_come c k p =
      let w = h k p in
      ⊎_elim
      (λ (q : w.0 ≡ k). let m : get_or turns e 0 ≡ get_or turns (jump turns k f) 0 = ap (λ (z : ℕ). get_or turns z 0) (w.2 ∙ ap (λ (z : ℕ). jump turns z f) q) in absurd (omega (arith, p.opens)))
      (λ (l : w.0 < k). (w.0, l, w.2))
      (eq-or-lt_of_le w.1)

  pub jumps_more : get_or turns e 0 < walked_mark → Jumps turns f (get_or turns e 0)
  unfolding Jumps jump
  jumps_more c k p = let w = to_come c k p in (suc w.0, w.1, ap (λ (z : ℕ). get_or turns z 0) w.2)

  pub jumps_end : walked_mark ≤ get_or turns e 0 → Landed turns f e
  unfolding Jumps Landed
  jumps_end o k p =
      let w = h k p in
      ⊎_elim (λ (q : w.0 ≡ k). w.2 ∙ ap (λ (z : ℕ). jump turns z f) q)
      (λ (l : w.0 < k). let m : get_or turns e 0 ≡ get_or turns (jump turns w.0 f) 0 = ap (λ (z : ℕ). get_or turns z 0) w.2 in absurd (omega (arith, p.closed w.0 l)))
      (eq-or-lt_of_le w.1)

  left_is : (k i : ℕ) → Lands turns f k → i ≤ k → away turns (length turns) (jump turns i f) ≡ k - i
  left_is k i p l =
      away_is turns (length turns) (k - i) (jump turns i f) (omega (arith, p.within))
      (λ j m. rw (jump_add turns f j i (j + i) refl) (p.closed (j + i) (omega arith)))
      (rw (jump_add turns f (k - i) i k (omega arith)) p.opens)

  pub jumps_less : Landing turns f → get_or turns e 0 < walked_mark → away turns (length turns) (get_or turns e 0) < away turns (length turns) e
  unfolding jump
  jumps_less p c =
      let w = to_come c p.steps p.lands in
      let a : away turns (length turns) e ≡ p.steps - w.0 = ap (away turns (length turns)) w.2 ∙ left_is p.steps w.0 p.lands (omega (arith, w.1)) in
      let b : away turns (length turns) (get_or turns e 0) ≡ p.steps - suc w.0 = ap (λ (z : ℕ). away turns (length turns) (get_or turns z 0)) w.2 ∙ left_is p.steps (suc w.0) p.lands w.1 in
      omega (arith, w.1)
