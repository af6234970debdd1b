-- Which tables are long enough for the loops of a surface.
use mathlib.Core.Path.{◌≡◌, refl, subst, sym}
use mathlib.Core.Logic.{◌⊎◌, inl, inr, ⊎_elim}
use mathlib.Core.List.{List}
use Prim.Native.Nat.{ℕ, ◌*◌, ◌/◌, ◌≤◌, ◌<◌}
use native.Mathlib.Nat.{le_trans}
use native.Mathlib.Omega.{arith}
use lib.Ieee.{Float}
use lib.ListN.{length, get_or, replicate, length-replicate}
use Rattle.base_limits.specs.Limits as limits
use Rattle.surface_rules.proofs.Laws.Tests.{lt_or_le}
use Rattle.cover_column.specs.Workings.Columns.{row, pairs, short, TableFor}
use Rattle.cover_column.proofs.Laws.Rows.{row_up, row_all}
use Rattle.fill_scratch.specs.Workings.Rings.{SightAt, Within, rim_mark}
use Rattle.fill_scratch.specs.Workings.Tray.{Serves}

-- a table whose quarter is row n is long enough for every loop of at most n edges
fits : (n m : ℕ) (table : List Float) → row n ≤ length table / 4 → m ≤ n → TableFor m table
fits n m table h l g = le_trans (row_up m n l) h

row_short : row short ≡ 120
unfolding row
row_short = refl

module _ (lengths marks : List ℕ) (table : List Float) where
  -- up to four edges no loop takes a table
  pub serves_fours : (most : ℕ) → Within most lengths marks → most ≤ 4 → Serves lengths marks table
  serves_fours most w h l k = ⊎_elim (λ (s : SightAt lengths marks l). inl s) (λ (m : get_or lengths l 0 ≤ most). inr (λ g. absurd (omega arith))) (w l k)

  pub serves_short : (most : ℕ) → Within most lengths marks → most ≤ short → 480 ≤ length table → Serves lengths marks table
  serves_short most w h e l k =
      ⊎_elim (λ (s : SightAt lengths marks l). inl s) (λ (m : get_or lengths l 0 ≤ most). inr (fits short _ table (omega (arith, row_short)) (omega arith))) (w l k)

  -- and of those that are not long none takes a longer one than the whole table
  pub serves_all : 4 * pairs ≤ length table → Serves lengths marks table
  serves_all e l k =
      ⊎_elim
      (λ (g : limits.longest < get_or lengths l 0). inl (inr (inl g)))
      (λ (g : get_or lengths l 0 ≤ limits.longest). inr (fits limits.longest _ table (omega (arith, row_all)) g))
      (lt_or_le limits.longest (get_or lengths l 0))

-- the whole table, however it is filled
pub serves_whole : (lengths marks : List ℕ) (v : Float) → Serves lengths marks (replicate (4 * pairs) v)
serves_whole lengths marks v = serves_all lengths marks (replicate (4 * pairs) v) (omega (arith, length-replicate {A = Float} (4 * pairs) v))

-- so a loop that is no rim, and no longer than the longest, has its table, which is as long as it was
pub table_here : (lengths marks : List ℕ) (table table' : List Float) (l : ℕ) → Serves lengths marks table → l < length lengths
    → (get_or marks l 0 ≡ rim_mark → ⊥) → length table' ≡ length table → get_or lengths l 0 ≤ limits.longest → TableFor (get_or lengths l 0) table'
table_here lengths marks table table' l s k other same few g =
    subst (λ (n : ℕ). row (get_or lengths l 0) ≤ n / 4) (sym same) (go (s l k))
  where
    go : SightAt lengths marks l ⊎ TableFor (get_or lengths l 0) table → row (get_or lengths l 0) ≤ length table / 4
    go (inl (inl three)) = absurd (omega arith)
    go (inl (inr (inl long))) = absurd (omega arith)
    go (inl (inr (inr rim))) = absurd (other rim)
    go (inr t) = t g
