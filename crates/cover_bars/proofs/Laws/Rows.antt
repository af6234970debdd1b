-- What one row's new word makes of all rows.
use mathlib.Core.Path.{◌≡◌, refl, sym, ap, ◌∙◌}
use mathlib.Core.Bool.{Bool, false, not, ◌&&◌, ◌||◌, or-false}
use mathlib.Core.List.{List}
use mathlib.Core.Logic.{⊎_elim}
use Prim.Native.Nat.{ℕ, ◌-◌, ◌*◌, ◌%◌, ◌^◌, ◌<◌, ◌≤◌}
use native.Mathlib.Omega.{arith}
use lib.Bits.{bit_and, bit_or}
use lib.Dec.{eqb}
use lib.ListN.{length, get_or, set, length-set}
use lib.Seq.{get_or-set_same, get_or-set_other}
use borrow.Author.Tests.{eq-eqb, ne_eqb}
use Rattle.base_limits.specs.Limits as limits
use Rattle.surface_rules.proofs.Laws.Tests.{eq_or_not}
use Rattle.cover_bits.specs.Workings.Masks.{bit, Rows}
use Rattle.cover_bits.proofs.Laws.Masks.{with_bit, less_bit, bit_zero}

module _ {n : ℕ} {p q : ℕ → ℕ → Bool} {rows : List ℕ} (told : Rows n p rows) where
  pub rows_same : ((a b : ℕ) → a < n → b < limits.longest → p a b ≡ q a b) → Rows n q rows
  rows_same w = record { long = told.long; tells = λ a b l m. told.tells a b l m ∙ w a b l m }

  -- row i gets another word
  rows_set : (i x : ℕ) → i < limits.longest → ((b : ℕ) → b < limits.longest → bit x b ≡ q i b) → ((a b : ℕ) → (a ≡ i → ⊥) → p a b ≡ q a b)
      → Rows n q (set rows i x)
  rows_set i x s here there =
      record {
        long = length-set rows i x ∙ told.long;
        tells =
            λ a b l m.
            ⊎_elim
            (λ (e : a ≡ i).
            ap (λ (z : ℕ). bit (get_or (set rows i x) z 0) b) e
            ∙ ap (λ (z : ℕ). bit z b) (get_or-set_same rows i x 0 (rw told.long s))
            ∙ here b m
            ∙ ap (λ (z : ℕ). q z b) (sym e))
            (λ (e : a ≡ i → ⊥). ap (λ (z : ℕ). bit z b) (get_or-set_other rows i a x 0 e) ∙ told.tells a b l m ∙ there a b e)
            (eq_or_not a i);
      }

-- rows that are clear tell nothing
pub rows_clear : {n : ℕ} {p : ℕ → ℕ → Bool} {rows : List ℕ} → length rows ≡ limits.longest → ((j : ℕ) → j < n → get_or rows j 0 ≡ 0)
    → ((a b : ℕ) → p a b ≡ false) → Rows n p rows
rows_clear long clear w = record { long = long; tells = λ a b l m. ap (λ (z : ℕ). bit z b) (clear a l) ∙ bit_zero b ∙ sym (w a b) }

-- p with the pair i, k, in this order
abbrev pub one : (ℕ → ℕ → Bool) → ℕ → ℕ → ℕ → ℕ → Bool
one p i k a b = p a b || (eqb a i && eqb b k)

module _ {n : ℕ} {p : ℕ → ℕ → Bool} {rows : List ℕ} (short : n ≤ limits.longest) (i : ℕ) (l : i < n) (told : Rows n p rows) where
  -- row i with k set too
  pub rows_one : (k : ℕ) → Rows n (one p i k) (set rows i (bit_or (get_or rows i 0) (1 * 2 ^ k % 2 ^ limits.longest)))
  rows_one k =
      rows_set told i _ (omega arith)
      (λ b m.
      with_bit limits.longest (get_or rows i 0) k b m
      ∙ ap (λ (t : Bool). t || eqb b k) (told.tells i b l m)
      ∙ ap (λ (t : Bool). p i b || (t && eqb b k)) (sym (eq-eqb i i refl)))
      (λ a b e. sym (ap (λ (t : Bool). p a b || (t && eqb b k)) (ne_eqb a i e) ∙ or-false (p a b)))

  -- row i without the digits of a mask
  pub rows_less : {q : ℕ → ℕ → Bool} (mask : ℕ) → mask < 2 ^ limits.longest → ((b : ℕ) → b < limits.longest → (p i b && not (bit mask b)) ≡ q i b)
      → ((a b : ℕ) → (a ≡ i → ⊥) → p a b ≡ q a b) → Rows n q (set rows i (bit_and (get_or rows i 0) (2 ^ limits.longest - 1 - mask)))
  rows_less mask fits here there =
      rows_set told i _ (omega arith)
      (λ b m. less_bit limits.longest (get_or rows i 0) mask b fits m ∙ ap (λ (t : Bool). t && not (bit mask b)) (told.tells i b l m) ∙ here b m)
      there
