-- A search that says `At i` has found the first index with the property, and one that says `Nothing` has passed them all: both by one step for each index.
use Rattle.std.specs.Prelude.{Option, Some, None}
use mathlib.Core.Path.{◌≡◌, refl, sym, ap, ◌∙◌}
use mathlib.Core.Bool.{Bool, true, false, true≢false, cond}
use mathlib.Core.Logic.{⊎_elim}
use Prim.Native.Nat.{ℕ, zero, suc, ◌+◌, ◌<◌}
use native.Mathlib.Numerals.{add-one}
use native.Mathlib.Decide.{le_ind}
use native.Mathlib.Nat.{not-suc-le-zero, eq-or-lt_of_le, le_of_suc-le-suc, le_refl}
use native.Mathlib.Omega.{arith}
use Rattle.surface_rules.specs.Smallest.{least, any, or_else}

pub at_not_nothing : {i : ℕ} → Some i ≡ None → ⊥
at_not_nothing h = let z : ◌≡◌ {A = ℕ} 0 1 = cc in omega arith

-- what `any` says of a search's answer
pub any_none : (f : Option ℕ) → any f ≡ false → f ≡ None
any_none (Some i) e = absurd (true≢false e)
any_none None e = refl

pub none_any : (f : Option ℕ) → f ≡ None → any f ≡ false
none_any f e = ap any e

pub any_some : (f : Option ℕ) → any f ≡ true → (i : ℕ) × (f ≡ Some i)
any_some (Some i) e = (i, refl)
any_some None e = absurd (true≢false (sym e))

module _ (p : ℕ → Bool) where
  -- the search as a loop runs it: it begins with nothing found, goes on while the test fails, and ends where it passes
  pub least_none : least p 0 ≡ None
  unfolding least
  least_none = refl

  pub least_more : (i : ℕ) → least p i ≡ None → p i ≡ false → least p (i + 1) ≡ None
  unfolding least
  least_more i h e = rw (add-one, h, e)

  pub least_at : (i n : ℕ) → least p i ≡ None → p i ≡ true → i < n → least p n ≡ Some i
  unfolding least
  least_at i n h e l = le_ind (λ (m : ℕ). least p m ≡ Some i) (rw (h, e)) (λ m q k. rw k) n l

  -- what a search that found nothing says
  pub least_never : (n : ℕ) → least p n ≡ None → (k : ℕ) → k < n → p k ≡ false
  unfolding least
  least_never zero h k l = absurd (not-suc-le-zero l)
  least_never (suc n) h k l = go (λ e q. least_never n e k q) (least p n) refl (p n) refl h
    where
      go : (least p n ≡ None → k < n → p k ≡ false) → (f : Option ℕ) → least p n ≡ f → (t : Bool) → p n ≡ t → or_else f (cond t (Some n) None) ≡ None → p k ≡ false
      go r (Some i) e t d g = absurd (at_not_nothing g)
      go r None e true d g = absurd (at_not_nothing g)
      go r None e false d g = ⊎_elim (λ q. ap p q ∙ d) (λ q. r e q) (eq-or-lt_of_le (le_of_suc-le-suc l))

  -- what a search that found i says: i is below n and has the property, and nothing before i has it
  pub least_sound : (n i : ℕ) → least p n ≡ Some i → (i < n) × (p i ≡ true)
  unfolding least
  least_sound zero i h = absurd (at_not_nothing (sym h))
  least_sound (suc n) i h = go (least_sound n i) (least p n) refl (p n) refl h
    where
      go : (least p n ≡ Some i → (i < n) × (p i ≡ true)) → (f : Option ℕ) → least p n ≡ f → (t : Bool) → p n ≡ t → or_else f (cond t (Some n) None) ≡ Some i → (i < suc n) × (p i ≡ true)
      go r (Some j) e t d g = let q = r (e ∙ g) in (omega arith, q.1)
      go r None e true d g = let q : n ≡ i = cc in (omega arith, ap p (sym q) ∙ d)
      go r None e false d g = absurd (at_not_nothing (sym g))

  pub least_first : (n i : ℕ) → least p n ≡ Some i → (k : ℕ) → k < i → p k ≡ false
  unfolding least
  least_first zero i h k l = absurd (at_not_nothing (sym h))
  least_first (suc n) i h k l = go (λ e. least_first n i e k l) (least p n) refl (p n) refl h
    where
      go : (least p n ≡ Some i → p k ≡ false) → (f : Option ℕ) → least p n ≡ f → (t : Bool) → p n ≡ t → or_else f (cond t (Some n) None) ≡ Some i → p k ≡ false
      go r (Some j) e t d g = r (e ∙ g)
      go r None e true d g = let q : n ≡ i = cc in least_never n e k (omega arith)
      go r None e false d g = absurd (at_not_nothing (sym g))

  -- a property that no index below n has is not found
  pub never_least : (n : ℕ) → ((k : ℕ) → k < n → p k ≡ false) → least p n ≡ None
  unfolding least
  never_least zero w = refl
  never_least (suc n) w = rw (never_least n (λ k l. w k (omega arith)), w n (le_refl (suc n)))

  -- `any` of a search: false if nothing below n has the property, and only then; true where an index has it
  pub any_never : (n : ℕ) → any (least p n) ≡ false → (k : ℕ) → k < n → p k ≡ false
  any_never n e = least_never n (any_none (least p n) e)

  pub never_any : (n : ℕ) → ((k : ℕ) → k < n → p k ≡ false) → any (least p n) ≡ false
  never_any n w = none_any (least p n) (never_least n w)

  pub any_index : (n : ℕ) → any (least p n) ≡ true → (i : ℕ) × (least p n ≡ Some i) × (i < n) × (p i ≡ true)
  any_index n e =
      let s = any_some (least p n) e in
      let q = least_sound n s.0 s.1 in
      (s.0, s.1, q.0, q.1)

  -- an index below n with the property is enough for the search to find one
  pub index_any : (n i : ℕ) → i < n → p i ≡ true → any (least p n) ≡ true
  index_any n i l e = go (any (least p n)) refl
    where
      go : (t : Bool) → any (least p n) ≡ t → any (least p n) ≡ true
      go true d = d
      go false d = absurd (true≢false (sym e ∙ any_never n d i l))

-- two properties that agree below n are found at one place
pub least_same : (p q : ℕ → Bool) (n : ℕ) → ((k : ℕ) → k < n → p k ≡ q k) → least p n ≡ least q n
unfolding least
least_same p q zero w = refl
least_same p q (suc n) w = rw (least_same p q n (λ k l. w k (omega arith)), w n (le_refl (suc n)))
