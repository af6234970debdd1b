-- "Keep the 2,016 pairs i < k in a row": each pair of a loop has a place of its own in a part of the table, and each place is a pair's.
use mathlib.Core.Path.{◌≡◌, ap}
use Prim.Native.Nat.{ℕ, zero, suc, ◌+◌, ◌-◌, ◌<◌}
use native.Mathlib.Nat.{not-suc-le-zero}
use native.Mathlib.Omega.{arith}
use native.Mathlib.Decide.{dec_lt}
use Rattle.base_limits.specs.Limits.{longest}
use Rattle.cover_column.specs.Workings.Columns.{row, pairs}
use Rattle.cover_column.proofs.Laws.Rows.{row_next, row_more, row_all}

-- where the pair i < k stands
abbrev pub place_of : ℕ → ℕ → ℕ
place_of i k = row k + i

pub in_the_row : (i k : ℕ) → i < k → k < longest → place_of i k < pairs
in_the_row i k l h = omega (arith, row_all, row_more k longest h)

pub one_place : (i k j m : ℕ) → i < k → j < m → place_of i k ≡ place_of j m → (i ≡ j) × (k ≡ m)
one_place i k j m l h e =
    let a : k < m → ⊥ = λ q. omega (arith, row_more k m q) in
    let b : m < k → ⊥ = λ q. omega (arith, row_more m k q) in
    let c : k ≡ m = omega arith in
    let d : row k ≡ row m = ap row c in
    (omega arith, c)

-- of a table for loops of n edges, whose parts may be as short as row n, each place is a pair's of such a loop
pub every_place_of : (n q : ℕ) → q < row n → (i : ℕ) × (k : ℕ) × (i < k) × (k < n) × (place_of i k ≡ q)
unfolding row
every_place_of zero q h = absurd (not-suc-le-zero h)
every_place_of (suc n) q h = go (dec_lt q (row n)) (every_place_of n q)
  where
    go : Dec (q < row n) → (q < row n → (i : ℕ) × (k : ℕ) × (i < k) × (k < n) × (place_of i k ≡ q))
        → (i : ℕ) × (k : ℕ) × (i < k) × (k < suc n) × (place_of i k ≡ q)
    go (yes l) r = let w = r l in (w.0, w.1, w.2, (let z = w.3 in omega arith), w.4)
    go (no l) r = let e = row_next n in (q - row n, n, omega arith, omega arith, omega arith)

pub every_place : (q : ℕ) → q < pairs → (i : ℕ) × (k : ℕ) × (i < k) × (k < longest) × (place_of i k ≡ q)
every_place q h = every_place_of longest q (omega (arith, row_all))
