-- What is added up over some numbers: over entries in a row, piece by piece, and over the numbers that have a property.
use mathlib.Core.Path.{◌≡◌, refl, sym, ap, ap₂, ◌∙◌}
use mathlib.Core.Bool.{Bool, true, false, cond}
use mathlib.Core.List.{List, [], ◌∷◌, ◌++◌, map, flatten}
use Prim.Native.Nat.{ℕ, zero, suc, ◌+◌, ◌<◌}
use native.Mathlib.Omega.{arith}
use lib.Dec.{eqb}
use lib.ListN.{length}
use Rattle.loop_rules.proofs.Laws.Counts.{count, among_count, distinct_count}
use Rattle.loop_rules.proofs.Laws.Distinct.{Distinct}
use Rattle.rim_pieces.specs.Computed.{many, numbers_below}
use Rattle.rim_pieces.proofs.Laws.Uniting.{numbers_length, numbers_at}
use Rattle.chart_rules.specs.declared.Entry.{Entry}

-- f over some numbers, added
unfoldable pub sum : (ℕ → ℕ) → List ℕ → ℕ
sum f [] = 0
sum f (x ∷ xs) = f x + sum f xs

pub sum_same : (f g : ℕ → ℕ) → ((x : ℕ) → f x ≡ g x) → (xs : List ℕ) → sum f xs ≡ sum g xs
unfolding sum
sum_same f g h [] = refl
sum_same f g h (x ∷ xs) = ap₂ (λ (m n : ℕ). m + n) (h x) (sum_same f g h xs)

pub sum_both : (f g : ℕ → ℕ) (xs : List ℕ) → sum (λ (x : ℕ). f x + g x) xs ≡ sum f xs + sum g xs
unfolding sum
sum_both f g [] = refl
sum_both f g (x ∷ xs) = let r = sum_both f g xs in omega arith

pub sum_none : (xs : List ℕ) → sum (λ (x : ℕ). 0) xs ≡ 0
unfolding sum
sum_none [] = refl
sum_none (x ∷ xs) = let r = sum_none xs in omega arith

pub sum_ones : (xs : List ℕ) → sum (λ (x : ℕ). 1) xs ≡ length xs
unfolding sum
sum_ones [] = refl
sum_ones (x ∷ xs) = let r = sum_ones xs in omega arith

-- one for each that is n
pub sum_count : (n : ℕ) (xs : List ℕ) → sum (λ (x : ℕ). cond (eqb n x) 1 0) xs ≡ count n xs
unfolding sum count
sum_count n [] = refl
sum_count n (x ∷ xs) = ap (λ (k : ℕ). cond (eqb n x) 1 0 + k) (sum_count n xs)

-- what adds up over entries in a row
module _ (m : List Entry → ℕ) (none : m [] ≡ 0) (adds : (a b : List Entry) → m (a ++ b) ≡ m a + m b) (f : ℕ → List Entry) where
  pub flat_sum : (ps : List ℕ) → m (flatten (map f ps)) ≡ sum (λ (p : ℕ). m (f p)) ps
  unfolding flatten sum
  flat_sum [] = none
  flat_sum (p ∷ ps) = adds (f p) (flatten (map f ps)) ∙ ap (λ (k : ℕ). m (f p) + k) (flat_sum ps)

-- each number below n stands once among them
numbers_apart : (n : ℕ) → Distinct (numbers_below n)
unfolding Distinct
numbers_apart n i j h k e = sym (numbers_at n i (omega (arith, numbers_length n))) ∙ e ∙ numbers_at n j (omega (arith, numbers_length n))

pub count_below : (l n : ℕ) → l < n → count l (numbers_below n) ≡ 1
count_below l n h =
    let a = among_count l (numbers_below n) (record { place = l; below = omega (arith, numbers_length n); is = numbers_at n l h }) in
    let b = distinct_count l (numbers_below n) (numbers_apart n) in
    omega arith

-- of m numbers that f gives, each once among ps
pub many_each : (f : ℕ → ℕ) (ps : List ℕ) (m : ℕ) → ((l : ℕ) → l < m → count (f l) ps ≡ 1) → sum (λ (p : ℕ). many (λ (l : ℕ). eqb (f l) p) m) ps ≡ m
unfolding many
many_each f ps zero h = sum_none ps
many_each f ps (suc m) h =
    sum_same (λ (p : ℕ). many (λ (l : ℕ). eqb (f l) p) (suc m)) (λ (p : ℕ). cond (eqb (f m) p) 1 0 + many (λ (l : ℕ). eqb (f l) p) m) (λ p. one_more (eqb (f m) p) (many (λ (l : ℕ). eqb (f l) p) m)) ps
    ∙ sum_both (λ (p : ℕ). cond (eqb (f m) p) 1 0) (λ (p : ℕ). many (λ (l : ℕ). eqb (f l) p) m) ps
    ∙ ap₂ (λ (x y : ℕ). x + y) (sum_count (f m) ps ∙ h m (omega arith)) (many_each f ps m (λ l k. h l (omega arith)))
    ∙ (let z : 1 + m ≡ suc m = omega arith in z)
  where
    one_more : (t : Bool) (x : ℕ) → cond t (suc x) x ≡ cond t 1 0 + x
    one_more true x = omega arith
    one_more false x = omega arith
