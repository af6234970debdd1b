-- Row after row loses its position and its neighbours.
use mathlib.Core.Path.{◌≡◌, refl, sym, ap, ap₂, ◌∙◌, subst}
use mathlib.Core.Bool.{Bool, true, false, not, ◌&&◌, ◌||◌, and-true}
use mathlib.Core.List.{List}
use Prim.Native.Nat.{ℕ, ◌+◌, ◌-◌, ◌*◌, ◌%◌, ◌^◌, ◌<◌, ◌≤◌, zero-le}
use native.Mathlib.Nat.{mod-lt, le_refl}
use native.Mathlib.Omega.{arith}
use lib.Bits.{bit_and, bit_or, or_lt}
use lib.Dec.{eqb, ltb}
use lib.ListN.{length, get_or, set, length-set}
use lib.Pow.{pow_pos}
use borrow.Author.Tests.{lt-ltb, le-ltb, ne_eqb}
use Rattle.base_limits.specs.Limits as limits
use Rattle.cover_bits.specs.Workings.Masks.{bit, Rows}
use Rattle.cover_bars.specs.Workings.Chains.{touches, cleared_below, SidesDone}
use Rattle.cover_bars.proofs.Laws.Neighbours.{inner_mask, first_mask, last_mask}
use Rattle.cover_bars.proofs.Laws.Tests.{ltb_more}
use Rattle.cover_bars.proofs.Laws.Rows.{rows_same, rows_less}

-- the first row was done before, and the rows below j are done
pub record Clearing (n : ℕ) (rows₁ rows : List ℕ) (j : ℕ) : Type 0 where
  pub long : 3 ≤ n
  pub short : n ≤ limits.longest
  pub begun : 0 < j
  pub within : j + 1 ≤ n
  pub rows_long : length rows ≡ limits.longest
  pub told : (p : ℕ → ℕ → Bool) → Rows n (cleared_below n 1 p) rows₁ → Rows n (cleared_below n j p) rows

-- row i without the digits of a mask
abbrev less : List ℕ → ℕ → ℕ → List ℕ
less rows i mask = set rows i (bit_and (get_or rows i 0) (2 ^ limits.longest - 1 - mask))

module _ (n : ℕ) (p : ℕ → ℕ → Bool) where
  clear_none : (a b : ℕ) → p a b ≡ cleared_below n 0 p a b
  unfolding cleared_below
  clear_none a b = sym (ap (λ (t : Bool). p a b && not (t && touches n a b)) (le-ltb a 0 zero-le) ∙ and-true (p a b))

  -- row j loses what touches j
  clear_here : (j b : ℕ) (t : Bool) → t ≡ touches n j b → (cleared_below n j p j b && not t) ≡ cleared_below n (j + 1) p j b
  unfolding cleared_below
  clear_here j b t e =
      ap₂ (λ (s x : Bool). (p j b && not (s && touches n j b)) && not x) (le-ltb j j (le_refl j)) e
      ∙ ap (λ (s : Bool). s && not (touches n j b)) (and-true (p j b))
      ∙ sym (ap (λ (s : Bool). p j b && not (s && touches n j b)) (lt-ltb j (j + 1) (omega arith)))

  -- and the others stay
  clear_there : (j a b : ℕ) → (a ≡ j → ⊥) → cleared_below n j p a b ≡ cleared_below n (j + 1) p a b
  unfolding cleared_below
  clear_there j a b e = ap (λ (s : Bool). p a b && not (s && touches n a b)) (or_same (ltb a j) (eqb a j) (ne_eqb a j e) ∙ sym (ltb_more a j))
    where
      or_same : (s t : Bool) → t ≡ false → s ≡ (s || t)
      or_same true t q = refl
      or_same false t q = sym q

clear_row : {n : ℕ} (p : ℕ → ℕ → Bool) {rows : List ℕ} (j mask : ℕ) → n ≤ limits.longest → j < n → mask < 2 ^ limits.longest
    → ((b : ℕ) → b < limits.longest → bit mask b ≡ touches n j b) → Rows n (cleared_below n j p) rows
    → Rows n (cleared_below n (j + 1) p) (less rows j mask)
clear_row {n} p j mask s l f w told = rows_less s j l told mask f (λ b m. clear_here n p j b (bit mask b) (w b m)) (clear_there n p j)

shifted_small : (a k : ℕ) → a * 2 ^ k % 2 ^ limits.longest < 2 ^ limits.longest
shifted_small a k = mod-lt (a * 2 ^ k) (pow_pos limits.longest)

both_small : (a b k : ℕ) → a < 2 ^ limits.longest → bit_or a (b * 2 ^ k % 2 ^ limits.longest) < 2 ^ limits.longest
both_small a b k l = or_lt limits.longest a (b * 2 ^ k % 2 ^ limits.longest) l (shifted_small b k)

-- the rows without the first row's neighbours
abbrev begun : ℕ → List ℕ → List ℕ
begun n rows = less rows 0 (bit_or 3 (1 * 2 ^ (n - 1) % 2 ^ limits.longest))

pub sides_begin : {n : ℕ} (rows : List ℕ) → 3 ≤ n → n ≤ limits.longest → length rows ≡ limits.longest → Clearing n (begun n rows) (begun n rows) 1
sides_begin rows long short r =
    record {
      long = long;
      short = short;
      begun = omega arith;
      within = omega arith;
      rows_long = length-set rows 0 _ ∙ r;
      told = λ p t. t;
    }

first_told : {n : ℕ} {rows : List ℕ} (p : ℕ → ℕ → Bool) → 3 ≤ n → n ≤ limits.longest → Rows n p rows → Rows n (cleared_below n 1 p) (begun n rows)
first_told {n} p long short t =
    clear_row p 0 (bit_or 3 (1 * 2 ^ (n - 1) % 2 ^ limits.longest)) short (omega arith) (both_small 3 1 (n - 1) (omega arith)) (first_mask n long)
    (rows_same t (λ a b _ _. clear_none n p a b))

pub sides_more : {n : ℕ} {rows₁ rows : List ℕ} {j : ℕ} → Clearing n rows₁ rows j → j < n - 1
    → Clearing n rows₁ (less rows j (7 * 2 ^ (j - 1) % 2 ^ limits.longest)) (j + 1)
sides_more {n} {rows} {j} going l =
    let b : 0 < j = going.begun in
    record {
      long = going.long;
      short = going.short;
      begun = omega arith;
      within = omega arith;
      rows_long = length-set rows j _ ∙ going.rows_long;
      told =
          λ p t.
          clear_row p j (7 * 2 ^ (j - 1) % 2 ^ limits.longest) going.short (omega arith) (shifted_small 7 (j - 1))
          (λ b m. inner_mask n going.long j b going.begun (omega arith) m) (going.told p t);
    }

pub sides_end : {n : ℕ} {rows₀ rows : List ℕ} {j : ℕ} → Clearing n (begun n rows₀) rows j → n - 1 ≤ j
    → SidesDone n rows₀ (less rows (n - 1) (bit_or 1 (3 * 2 ^ (n - 2) % 2 ^ limits.longest)))
sides_end {n} {rows} {j} going l =
    let w : j + 1 ≤ n = going.within in
    let s : 3 ≤ n = going.long in
    let e : j ≡ n - 1 = omega arith in
    let f : n - 1 + 1 ≡ n = omega arith in
    let mask : ℕ = bit_or 1 (3 * 2 ^ (n - 2) % 2 ^ limits.longest) in
    record {
      rows_long = length-set rows (n - 1) _ ∙ going.rows_long;
      cleared =
          λ p t.
          subst (λ (z : ℕ). Rows n (cleared_below n z p) (less rows (n - 1) mask)) f
          (clear_row p (n - 1) mask going.short (omega arith) (both_small 1 3 (n - 2) (omega arith)) (last_mask n s)
          (subst (λ (z : ℕ). Rows n (cleared_below n z p) rows) e (going.told p (first_told p s going.short t))));
    }
