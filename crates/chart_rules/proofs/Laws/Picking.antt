-- Numbers picked out of those below n: one more that the property holds of stands behind the others, a stretch that it holds of none of adds nothing, and
-- what is alone in having it is all that is picked.
use mathlib.Core.Path.{◌≡◌, refl, sym, ap, ◌∙◌}
use mathlib.Core.Bool.{Bool, true, false, cond}
use mathlib.Core.Logic.{⊎_elim}
use mathlib.Core.List.{List, [], ◌∷◌, ◌++◌, append-nil}
use Prim.Native.Nat.{ℕ, zero, suc, ◌+◌, ◌<◌, ◌≤◌}
use native.Mathlib.Nat.{eq-or-lt_of_le}
use native.Mathlib.Numerals.{add-one}
use native.Mathlib.Omega.{arith}
use lib.ListN.{length, length-append}
use Rattle.rim_pieces.specs.Computed.{many, numbers_below}
use Rattle.chart_rules.specs.Report.{pick}

module _ (p : ℕ → Bool) where
  pub pick_append : (a b : List ℕ) → pick p (a ++ b) ≡ pick p a ++ pick p b
  unfolding pick
  pick_append [] b = refl
  pick_append (x ∷ a) b = go (p x) (pick_append a b)
    where
      go : (t : Bool) → pick p (a ++ b) ≡ pick p a ++ pick p b → cond t (x ∷ pick p (a ++ b)) (pick p (a ++ b)) ≡ cond t (x ∷ pick p a) (pick p a) ++ pick p b
      go true e = ap (λ (l : List ℕ). x ∷ l) e
      go false e = e

  -- none below 0
  pub pick_begins : pick p (numbers_below 0) ≡ []
  unfolding pick numbers_below
  pick_begins = refl

  -- one more
  pub pick_next : (n : ℕ) → p n ≡ true → pick p (numbers_below (n + 1)) ≡ pick p (numbers_below n) ++ (n ∷ [])
  unfolding pick numbers_below
  pick_next n e = ap (λ (k : ℕ). pick p (numbers_below k)) (add-one n) ∙ pick_append (numbers_below n) (n ∷ []) ∙ (rw e)

  -- one that is passed over
  pub pick_skip : (n : ℕ) → p n ≡ false → pick p (numbers_below (n + 1)) ≡ pick p (numbers_below n)
  unfolding pick numbers_below
  pick_skip n e = ap (λ (k : ℕ). pick p (numbers_below k)) (add-one n) ∙ pick_append (numbers_below n) (n ∷ []) ∙ rw e (append-nil (pick p (numbers_below n)))

  -- a stretch of such
  pub pick_stretch : (m n : ℕ) → m ≤ n → ((l : ℕ) → m ≤ l → l < n → p l ≡ false) → pick p (numbers_below n) ≡ pick p (numbers_below m)
  pick_stretch m zero h w = ap (λ (k : ℕ). pick p (numbers_below k)) (let z : 0 ≡ m = omega arith in z)
  pick_stretch m (suc n) h w =
      ⊎_elim (λ (q : m ≡ suc n). ap (λ (k : ℕ). pick p (numbers_below k)) (sym q))
      (λ (q : m < suc n).
      ap (λ (k : ℕ). pick p (numbers_below k)) (sym (add-one n))
      ∙ pick_skip n (w n (omega arith) (omega arith))
      ∙ pick_stretch m n (omega arith) (λ l a b. w l a (omega arith)))
      (eq-or-lt_of_le h)

  -- nothing where it holds of none,
  pub pick_none : (n : ℕ) → ((l : ℕ) → l < n → p l ≡ false) → pick p (numbers_below n) ≡ []
  pick_none n w = pick_stretch 0 n (omega arith) (λ l a b. w l b) ∙ pick_begins

  -- and r alone where it holds of r alone
  pub pick_one : (n r : ℕ) → r < n → p r ≡ true → ((l : ℕ) → l < n → (l ≡ r → ⊥) → p l ≡ false) → pick p (numbers_below n) ≡ r ∷ []
  pick_one n r h e w =
      pick_stretch (r + 1) n (omega arith) (λ l a b. w l b (λ (q : l ≡ r). omega arith))
      ∙ pick_next r e
      ∙ ap (λ (l : List ℕ). l ++ (r ∷ [])) (pick_none r (λ l a. w l (omega arith) (λ (q : l ≡ r). omega arith)))

  -- as many are picked as have the property
  pub pick_many : (n : ℕ) → length (pick p (numbers_below n)) ≡ many p n
  unfolding many
  pick_many zero = ap length pick_begins
  pick_many (suc n) = ap (λ (k : ℕ). length (pick p (numbers_below k))) (sym (add-one n)) ∙ go (p n) refl (pick_many n)
    where
      go : (t : Bool) → p n ≡ t → length (pick p (numbers_below n)) ≡ many p n → length (pick p (numbers_below (n + 1))) ≡ cond t (suc (many p n)) (many p n)
      go true e r = let a : length (pick p (numbers_below n) ++ (n ∷ [])) ≡ length (pick p (numbers_below n)) + 1 = length-append (pick p (numbers_below n)) (n ∷ []) in ap length (pick_next n e) ∙ omega arith
      go false e r = ap length (pick_skip n e) ∙ r

-- no more than there are
pub many_few : (p : ℕ → Bool) (n : ℕ) → many p n ≤ n
unfolding many
many_few p zero = omega arith
many_few p (suc n) = go (p n) (many_few p n)
  where
    go : (t : Bool) → many p n ≤ n → cond t (suc (many p n)) (many p n) ≤ suc n
    go true h = omega arith
    go false h = omega arith

-- two properties that agree on the numbers below n pick the same
pub pick_same : (p q : ℕ → Bool) (n : ℕ) → ((l : ℕ) → l < n → p l ≡ q l) → pick p (numbers_below n) ≡ pick q (numbers_below n)
unfolding pick numbers_below
pick_same p q zero w = refl
pick_same p q (suc n) w =
    pick_append p (numbers_below n) (n ∷ [])
    ∙ (rw (pick_same p q n (λ l h. w l (omega arith)), w n (omega arith)))
    ∙ sym (pick_append q (numbers_below n) (n ∷ []))
