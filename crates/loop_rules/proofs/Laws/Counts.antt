-- How often a number stands in a list says whether it stands there, and whether only once, by going down the list; so two lists with the
-- same counts have the same numbers.
use mathlib.Core.Path.{◌≡◌, refl, sym, ap, ap₂, ◌∙◌, subst}
use mathlib.Core.Bool.{Bool, true, false, cond}
use mathlib.Core.List.{List, [], ◌∷◌, ◌++◌}
use Prim.Native.Nat.{ℕ, zero, suc, ◌+◌, ◌<◌, ◌≤◌}
use native.Mathlib.Nat.{not-suc-le-zero}
use native.Mathlib.Omega.{arith}
use lib.Dec.{eqb}
use lib.ListN.{length, get_or}
use borrow.Author.Tests.{eqb-true, eq-eqb}
use Rattle.loop_rules.proofs.Laws.Distinct.{Distinct}
use Rattle.loop_rules.proofs.Laws.Parts.{distinct_tail}

-- how often e stands in a list
unfoldable pub count : ℕ → List ℕ → ℕ
count e [] = 0
count e (x ∷ l) = cond (eqb e x) 1 0 + count e l

-- a place at which e stands in l
pub record Among (e : ℕ) (l : List ℕ) : Type 0 where
  pub place : ℕ
  pub below : place < length l
  pub is : get_or l place 0 ≡ e

-- each number stands as often in a as in b
unfoldable pub Same : List ℕ → List ℕ → Type 0
Same a b = (e : ℕ) → count e a ≡ count e b

pub count_none : (e : ℕ) → count e [] ≡ 0
unfolding count
count_none e = refl

pub count_append : (e : ℕ) (a b : List ℕ) → count e (a ++ b) ≡ count e a + count e b
unfolding count
count_append e [] b = omega arith
count_append e (x ∷ a) b = let r : count e (a ++ b) ≡ count e a + count e b = count_append e a b in omega arith

count_first : (e x : ℕ) (l : List ℕ) → e ≡ x → count e (x ∷ l) ≡ suc (count e l)
unfolding count
count_first e x l q = let t : eqb e x ≡ true = eq-eqb e x q in rw t (omega arith)

count_later : (e x : ℕ) (l : List ℕ) → count e l ≤ count e (x ∷ l)
unfolding count
count_later e x l = omega arith

pub among_count : (e : ℕ) (l : List ℕ) → Among e l → 0 < count e l
among_count e l m = at l m.place m.below m.is
  where
    at : (l : List ℕ) (i : ℕ) → i < length l → get_or l i 0 ≡ e → 0 < count e l
    at [] i h q = absurd (not-suc-le-zero h)
    at (x ∷ l) zero h q = omega (arith, count_first e x l (sym q))
    at (x ∷ l) (suc i) h q = let r : 0 < count e l = at l i (omega arith) q in omega (arith, count_later e x l)

pub among_later : (e x : ℕ) (l : List ℕ) → Among e l → Among e (x ∷ l)
among_later e x l m = record { place = suc m.place; below = let b = m.below in omega arith; is = m.is }

pub count_among : (e : ℕ) (l : List ℕ) → 0 < count e l → Among e l
unfolding count
count_among e [] h = absurd (not-suc-le-zero h)
count_among e (x ∷ l) h = go (count_among e l) (eqb e x) refl
  where
    go : (0 < count e l → Among e l) → (t : Bool) → eqb e x ≡ t → Among e (x ∷ l)
    go r true q = record { place = 0; below = omega arith; is = sym (eqb-true e x q) }
    go r false q = let k : 0 < cond false 1 0 + count e l = subst (λ (t : Bool). 0 < cond t 1 0 + count e l) q h in among_later e x l (r (omega arith))

-- a number stands in a list of different numbers at most once, and the other way round
pub distinct_count : (e : ℕ) (l : List ℕ) → Distinct l → count e l ≤ 1
unfolding count Distinct
distinct_count e [] d = omega arith
distinct_count e (x ∷ l) d = go (distinct_count e l (distinct_tail x l d)) (eqb e x) refl
  where
    again : e ≡ x → 0 < count e l → ⊥
    again q h = let m = count_among e l h in let b = m.below in let z : 0 ≡ suc m.place = d 0 (suc m.place) (omega arith) (omega arith) (sym q ∙ sym m.is) in omega arith

    go : count e l ≤ 1 → (t : Bool) → eqb e x ≡ t → cond t 1 0 + count e l ≤ 1
    go r true q = most (count e l) (again (eqb-true e x q))
      where
        most : (n : ℕ) → (0 < n → ⊥) → 1 + n ≤ 1
        most zero no' = omega arith
        most (suc n) no' = absurd (no' (omega arith))
    go r false q = omega arith

pub count_distinct : (l : List ℕ) → ((e : ℕ) → count e l ≤ 1) → Distinct l
unfolding Distinct
count_distinct [] h = λ i j a b q. absurd (not-suc-le-zero a)
count_distinct (x ∷ l) h = go (count_distinct l (λ e. let r : count e (x ∷ l) ≤ 1 = h e in omega (arith, count_later e x l)))
  where
    first : (k : ℕ) → k < length l → x ≡ get_or l k 0 → ⊥
    first k m p =
        let r : count x (x ∷ l) ≤ 1 = h x in
        let s : 0 < count x l = among_count x l (record { place = k; below = m; is = sym p }) in
        omega (arith, count_first x x l refl)

    go : ((i j : ℕ) → i < length l → j < length l → get_or l i 0 ≡ get_or l j 0 → i ≡ j) → (i j : ℕ) → i < suc (length l) → j < suc (length l) → get_or (x ∷ l) i 0 ≡ get_or (x ∷ l) j 0 → i ≡ j
    go r zero zero a b q = refl
    go r zero (suc j) a b q = absurd (first j (omega arith) q)
    go r (suc i) zero a b q = absurd (first i (omega arith) (sym q))
    go r (suc i) (suc j) a b q = ap suc (r i j (omega arith) (omega arith) q)

pub same_append : (a a' b b' : List ℕ) → Same a a' → Same b b' → Same (a ++ b) (a' ++ b')
unfolding Same
same_append a a' b b' h k e = count_append e a b ∙ ap₂ (λ (m n : ℕ). m + n) (h e) (k e) ∙ sym (count_append e a' b')

pub same_among : (a b : List ℕ) → Same a b → (e : ℕ) → Among e a → Among e b
unfolding Same
same_among a b h e m = count_among e b (rw (h e) at (among_count e a m))

pub same_distinct : (a b : List ℕ) → Same a b → Distinct b → Distinct a
unfolding Same
same_distinct a b h d = count_distinct a (λ e. rw (h e) (distinct_count e b d))
