-- Where the rows of the table begin: one after the other, each as long as its number, so that no two stretches share a place.
use mathlib.Core.Path.{◌≡◌, refl, sym, ap, ◌∙◌, subst}
use mathlib.Core.Logic.{◌⊎◌, inl, inr}
use Prim.Native.Nat.{ℕ, zero, suc, ◌+◌, ◌-◌, ◌*◌, ◌/◌, ◌≤◌, ◌<◌, zero-le}
use native.Mathlib.Nat.{le_refl, le_trans, suc-mul, mul-suc, mul-le-mul, add-mul-div_right, eq-or-lt_of_le, le_of_suc-le-suc, zero-lt-suc}
use native.Mathlib.Omega.{arith}
use mathlib.Core.List.{List}
use lib.ListN.{length}
use lib.Ieee.{Float}
use Rattle.base_limits.specs.Limits.{longest}
use Rattle.cover_column.specs.Workings.Columns.{row, pairs, Table}

-- a number is no greater than its square
pub at_most_square : (k : ℕ) → k ≤ k * k
at_most_square zero = zero-le
at_most_square (suc k) = let e : suc k * suc k ≡ k * suc k + suc k = suc-mul k (suc k) in omega arith

pub square_most : (k : ℕ) → k ≤ longest → k * k ≤ longest * longest
square_most k h = mul-le-mul h h

-- row k + 1 begins where row k ends
pub row_next : (k : ℕ) → row (suc k) ≡ row k + k
unfolding row
row_next k = ap (λ (x : ℕ). x / 2) grown ∙ add-mul-div_right (k * k - k) k (zero-lt-suc 1)
  where
    grown : suc k * suc k - suc k ≡ k * k - k + k * 2
    grown =
        let e : suc k * suc k ≡ k * suc k + suc k = suc-mul k (suc k) in
        let f : k * suc k ≡ k * k + k = mul-suc k k in
        let g : k ≤ k * k = at_most_square k in
        omega arith

pub row_more : (j k : ℕ) → j < k → row j + j ≤ row k
row_more j zero h = absurd (omega arith)
row_more j (suc k) h = go (eq-or-lt_of_le (le_of_suc-le-suc h)) (row_more j k)
  where
    go : (j ≡ k) ⊎ (j < k) → (j < k → row j + j ≤ row k) → row j + j ≤ row (suc k)
    go (inl e) r = let f : row (suc k) ≡ row k + k = row_next k in rw e (omega arith)
    go (inr l) r = let f : row (suc k) ≡ row k + k = row_next k in let g : row j + j ≤ row k = r l in omega arith

pub row_up : (j k : ℕ) → j ≤ k → row j ≤ row k
row_up j k h = go (eq-or-lt_of_le h)
  where
    go : (j ≡ k) ⊎ (j < k) → row j ≤ row k
    go (inl e) = rw e (le_refl (row k))
    go (inr l) = let f : row j + j ≤ row k = row_more j k l in omega arith

-- a table for n positions serves fewer, and is one as long as it stays as long
pub table_fewer : {j n quarter : ℕ} {table : List Float} → j ≤ n → Table n quarter table → Table j quarter table
table_fewer {j} {n} h t = record { deep = le_trans (row_up j n h) t.deep; four = t.four }

pub table_kept : {n quarter : ℕ} {table table' : List Float} → length table' ≡ length table → Table n quarter table → Table n quarter table'
table_kept {quarter = quarter} e t = record { deep = t.deep; four = subst (λ (l : ℕ). 4 * quarter ≤ l) (sym e) t.four }

-- a part of the longest loop's table has a place for each of its stretches, and no other
pub row_all : row longest ≡ pairs
unfolding row
row_all = refl
