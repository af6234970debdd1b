-- The masks that take a position's neighbours out of its row hold just these and the position itself.
use mathlib.Core.Path.{◌≡◌, sym, ap, ap₂, ◌∙◌}
use mathlib.Core.Bool.{Bool, true, false, ◌&&◌, ◌||◌}
use mathlib.Core.Logic.{◌⊎◌, inl, inr, ⊎_elim}
use Prim.Native.Nat.{ℕ, ◌+◌, ◌-◌, ◌*◌, ◌%◌, ◌^◌, ◌<◌, ◌≤◌}
use native.Mathlib.Nat.{mod-eq_of_lt, mod_self}
use native.Mathlib.Omega.{arith}
use lib.Bits.{bit_or}
use lib.Dec.{eqb, leb, ltb}
use borrow.Author.Tests.{eqb-true, eqb-false, ltb-true, leb-true, eq-eqb, lt-ltb, le-leb}
use Rattle.base_limits.specs.Limits as limits
use Rattle.surface_rules.proofs.Laws.Tests.{both_true, either_false, lt_or_le}
use Rattle.cover_bits.specs.Workings.Masks.{bit}
use Rattle.cover_bits.proofs.Laws.Masks.{or_bit, one_bit, ones_bit, window_bit}
use Rattle.cover_bars.specs.Bars.{follows}
use Rattle.cover_bars.specs.Workings.Chains.{touches}
use Rattle.cover_bars.proofs.Laws.Tests.{either_true, or_left, or_right, surely, same_truth}

-- ---- neighbours

-- where a loop of n goes on from a
abbrev next : ℕ → ℕ → ℕ
next n a = (a + 1) % n

next_inner : (n a : ℕ) → a + 1 < n → next n a ≡ a + 1
next_inner n a l = mod-eq_of_lt l

next_last : (n a : ℕ) → a + 1 ≡ n → next n a ≡ 0
next_last n a e = ap (λ (z : ℕ). z % n) e ∙ mod_self n

module _ (n a b : ℕ) where
  touched : touches n a b ≡ true → (b < n) × ((a ≡ b) ⊎ ((next n a ≡ b) ⊎ (next n b ≡ a)))
  unfolding touches follows
  touched e =
      let s = both_true _ _ e in (
        ltb-true b n s.0,
        ⊎_elim
            (λ f. ⊎_elim (λ g. inl (eqb-true a b g)) (λ g. inr (inl (eqb-true (next n a) b g))) (either_true _ _ f))
            (λ f. inr (inr (eqb-true (next n b) a f)))
            (either_true _ _ s.1),
      )

  untouched : b < n → touches n a b ≡ false → (a ≡ b → ⊥) × (next n a ≡ b → ⊥) × (next n b ≡ a → ⊥)
  unfolding touches follows
  untouched l e =
      let s = either_false _ _ (sym (ap (λ (t : Bool). t && ((eqb a b || eqb (next n a) b) || eqb (next n b) a)) (lt-ltb b n l)) ∙ e) in
      let r = either_false _ _ s.0 in
      (eqb-false a b r.0, eqb-false (next n a) b r.1, eqb-false (next n b) a s.1)

-- b comes before the last position of n, or is the last
inner_or_last : (n b : ℕ) → b < n → ((b + 1 < n) × (next n b ≡ b + 1)) ⊎ ((b + 1 ≡ n) × (next n b ≡ 0))
inner_or_last n b l =
    ⊎_elim
    (λ (m : b + 1 < n). inl (m, next_inner n b m))
    (λ (m : n ≤ b + 1). let e : b + 1 ≡ n = omega arith in inr (e, next_last n b e))
    (lt_or_le (b + 1) n)

-- ---- windows

in_window : (k w b : ℕ) → k ≤ b → b < k + w → (leb k b && ltb (b - k) w) ≡ true
in_window k w b l m = ap₂ (λ (s t : Bool). s && t) (le-leb k b l) (lt-ltb (b - k) w (omega arith))

of_window : (k w b : ℕ) → (leb k b && ltb (b - k) w) ≡ true → (k ≤ b) × (b < k + w)
of_window k w b e =
    let s = both_true _ _ e in
    let l : k ≤ b = leb-true k b s.0 in
    let m : b - k < w = ltb-true (b - k) w s.1 in
    (l, omega arith)

module _ (n : ℕ) (long : 3 ≤ n) where
  -- 7 << (a - 1), between the ends
  module _ (a b : ℕ) (first : 0 < a) (last : a + 1 < n) where
    inner_window : (leb (a - 1) b && ltb (b - (a - 1)) 3) ≡ touches n a b
    inner_window =
        let e : next n a ≡ a + 1 = next_inner n a last in
        same_truth (leb (a - 1) b && ltb (b - (a - 1)) 3) (touches n a b)
        (λ t.
        let w = of_window (a - 1) 3 b t in
        let l : a - 1 ≤ b = w.0 in
        let m : b < a - 1 + 3 = w.1 in
        surely (touches n a b)
        (λ f.
        let u = untouched n a b (omega arith) f in
        let x : a ≡ b → ⊥ = u.0 in
        let y : next n a ≡ b → ⊥ = u.1 in
        let z : next n b ≡ a → ⊥ = u.2 in
        ⊎_elim (λ g. let i : b + 1 < n = g.0 in let q : next n b ≡ b + 1 = g.1 in omega arith) (λ g. let i : b + 1 ≡ n = g.0 in omega arith) (inner_or_last n b (omega arith))))
        (λ t.
        let s = touched n a b t in
        let l : b < n = s.0 in
        ⊎_elim
        (λ (x : a ≡ b). in_window (a - 1) 3 b (omega arith) (omega arith))
        (⊎_elim
        (λ (x : next n a ≡ b). in_window (a - 1) 3 b (omega arith) (omega arith))
        (λ (x : next n b ≡ a).
        ⊎_elim
        (λ g. let q : next n b ≡ b + 1 = g.1 in in_window (a - 1) 3 b (omega arith) (omega arith))
        (λ g. let q : next n b ≡ 0 = g.1 in absurd (omega arith))
        (inner_or_last n b l)))
        s.1)

    pub inner_mask : b < limits.longest → bit (7 * 2 ^ (a - 1) % 2 ^ limits.longest) b ≡ touches n a b
    inner_mask l = window_bit limits.longest 3 (a - 1) b l ∙ inner_window

  -- 3 | 1 << (n - 1), at the first position
  module _ (b : ℕ) where
    first_window : (ltb b 2 || eqb b (n - 1)) ≡ touches n 0 b
    first_window =
        let e : next n 0 ≡ 1 = next_inner n 0 (omega arith) in
        same_truth (ltb b 2 || eqb b (n - 1)) (touches n 0 b)
        (λ t.
        surely (touches n 0 b)
        (λ f.
        ⊎_elim
        (λ g.
        let l : b < 2 = ltb-true b 2 g in
        let u = untouched n 0 b (omega arith) f in
        let x : 0 ≡ b → ⊥ = u.0 in
        let y : next n 0 ≡ b → ⊥ = u.1 in
        omega arith)
        (λ g.
        let q : b ≡ n - 1 = eqb-true b (n - 1) g in
        let u = untouched n 0 b (omega arith) f in
        u.2 (next_last n b (omega arith)))
        (either_true _ _ t)))
        (λ t.
        let s = touched n 0 b t in
        let l : b < n = s.0 in
        ⊎_elim
        (λ (x : 0 ≡ b). or_left _ _ (lt-ltb b 2 (omega arith)))
        (⊎_elim
        (λ (x : next n 0 ≡ b). or_left _ _ (lt-ltb b 2 (omega arith)))
        (λ (x : next n b ≡ 0).
        ⊎_elim
        (λ g. let q : next n b ≡ b + 1 = g.1 in absurd (omega arith))
        (λ g. let q : b + 1 ≡ n = g.0 in or_right (ltb b 2) _ (eq-eqb b (n - 1) (omega arith)))
        (inner_or_last n b l)))
        s.1)

    pub first_mask : b < limits.longest → bit (bit_or 3 (1 * 2 ^ (n - 1) % 2 ^ limits.longest)) b ≡ touches n 0 b
    first_mask l =
        or_bit 3 (1 * 2 ^ (n - 1) % 2 ^ limits.longest) b
        ∙ ap₂ (λ (s t : Bool). s || t) (ones_bit 2 b) (one_bit limits.longest (n - 1) b l)
        ∙ first_window

  -- 1 | 3 << (n - 2), at the last
  module _ (b : ℕ) where
    last_window : (ltb b 1 || (leb (n - 2) b && ltb (b - (n - 2)) 2)) ≡ touches n (n - 1) b
    last_window =
        let e : next n (n - 1) ≡ 0 = next_last n (n - 1) (omega arith) in
        same_truth (ltb b 1 || (leb (n - 2) b && ltb (b - (n - 2)) 2)) (touches n (n - 1) b)
        (λ t.
        surely (touches n (n - 1) b)
        (λ f.
        ⊎_elim
        (λ g.
        let l : b < 1 = ltb-true b 1 g in
        let u = untouched n (n - 1) b (omega arith) f in
        let y : next n (n - 1) ≡ b → ⊥ = u.1 in
        omega arith)
        (λ g.
        let w = of_window (n - 2) 2 b g in
        let l : n - 2 ≤ b = w.0 in
        let m : b < n - 2 + 2 = w.1 in
        let u = untouched n (n - 1) b (omega arith) f in
        let x : n - 1 ≡ b → ⊥ = u.0 in
        let z : next n b ≡ n - 1 → ⊥ = u.2 in
        ⊎_elim (λ h. let q : next n b ≡ b + 1 = h.1 in omega arith) (λ h. let q : b + 1 ≡ n = h.0 in omega arith) (inner_or_last n b (omega arith)))
        (either_true _ _ t)))
        (λ t.
        let s = touched n (n - 1) b t in
        let l : b < n = s.0 in
        ⊎_elim
        (λ (x : n - 1 ≡ b). or_right (ltb b 1) _ (in_window (n - 2) 2 b (omega arith) (omega arith)))
        (⊎_elim
        (λ (x : next n (n - 1) ≡ b). or_left _ _ (lt-ltb b 1 (omega arith)))
        (λ (x : next n b ≡ n - 1).
        ⊎_elim
        (λ g. let q : next n b ≡ b + 1 = g.1 in or_right (ltb b 1) _ (in_window (n - 2) 2 b (omega arith) (omega arith)))
        (λ g. let q : next n b ≡ 0 = g.1 in absurd (omega arith))
        (inner_or_last n b l)))
        s.1)

    pub last_mask : b < limits.longest → bit (bit_or 1 (3 * 2 ^ (n - 2) % 2 ^ limits.longest)) b ≡ touches n (n - 1) b
    last_mask l =
        or_bit 1 (3 * 2 ^ (n - 2) % 2 ^ limits.longest) b
        ∙ ap₂ (λ (s t : Bool). s || t) (ones_bit 1 b) (window_bit limits.longest 2 (n - 2) b l)
        ∙ last_window
