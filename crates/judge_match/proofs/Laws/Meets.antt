-- The digits that two rows have in common, gathered row after row: some digit of what is gathered is set exactly if one was met.
use Prim.Native.Nat.{ℕ, zero, suc, ◌-◌, ◌^◌, ◌<◌, ◌≤◌}
use mathlib.Core.Path.{◌≡◌, refl, sym, ap, ◌∙◌}
use mathlib.Core.Bool.{Bool, true, false, ◌&&◌, ◌||◌, true≢false}
use mathlib.Core.Logic.{◌⊎◌, inl, inr, ⊎_elim}
use mathlib.Core.List.{List}
use native.Mathlib.Nat.{eq-or-lt_of_le, le_of_suc-le-suc}
use native.Mathlib.Omega.{arith}
use lib.Dec.{ltb}
use lib.Bits.{bit_and, bit_or, or_lt, and_lt}
use lib.ListN.{get_or}
use lib.Pow.{pow_pos}
use mir.Syntax.{w64}
use mir.Val.{Fits}
use borrow.Author.Tests.{ltb-true, ltb-false}
use Rattle.base_limits.specs.Limits as limits
use Rattle.surface_rules.proofs.Laws.Tests.{not_so}
use Rattle.cover_bits.specs.Workings.Masks.{bit}
use Rattle.cover_bits.proofs.Laws.Masks.{or_bit, and_bit, bit_zero, zero_bits}
use Rattle.judge_match.specs.Workings.Rows.{Clashes}

pub meet_is : (both row bar : ℕ) → Fits w64 both → Fits w64 row → Fits w64 bar
    → (bit_or both (bit_and row bar) < 2 ^ limits.longest) × ((k : ℕ) → bit (bit_or both (bit_and row bar)) k ≡ (bit both k || (bit row k && bit bar k)))
meet_is both row bar p q r = (
  or_lt limits.longest both (bit_and row bar) p.fits (and_lt limits.longest row bar q.fits r.fits),
  λ k. or_bit both (bit_and row bar) k ∙ ap (λ (x : Bool). bit both k || x) (and_bit row bar k),
)

-- a digit below n that is set, or none
some_digit : (x n : ℕ) → ((k : ℕ) × (k < n) × (bit x k ≡ true)) ⊎ ((k : ℕ) → k < n → bit x k ≡ false)
some_digit x zero = inr (λ k l. absurd (omega arith))
some_digit x (suc n) = go (bit x n) refl (some_digit x n)
  where
    go : (t : Bool) → bit x n ≡ t → ((k : ℕ) × (k < n) × (bit x k ≡ true)) ⊎ ((k : ℕ) → k < n → bit x k ≡ false)
        → ((k : ℕ) × (k < suc n) × (bit x k ≡ true)) ⊎ ((k : ℕ) → k < suc n → bit x k ≡ false)
    go t e (inl f) = inl (f.0, omega arith, f.2)
    go true e (inr f) = inl (n, omega arith, e)
    go false e (inr f) =
        inr (λ k l. ⊎_elim (λ d. ap (bit x) d ∙ e) (f k) (eq-or-lt_of_le (le_of_suc-le-suc l)))

-- ---- row after row

-- what was gathered of the rows below j
pub record Gathered (rows bars : List ℕ) (j both : ℕ) : Type 0 where
  pub fits : both < 2 ^ limits.longest
  pub met : (k : ℕ) → bit both k ≡ true → (a : ℕ) × (a < j) × (bit (get_or rows a 0) k ≡ true) × (bit (get_or bars a 0) k ≡ true)
  pub all : (a k : ℕ) → a < j → bit (get_or rows a 0) k ≡ true → bit (get_or bars a 0) k ≡ true → bit both k ≡ true

pub gathered_none : {rows bars : List ℕ} → Gathered rows bars 0 0
gathered_none = record {
  fits = pow_pos limits.longest;
  met = λ k e. absurd (true≢false (sym e ∙ bit_zero k));
  all = λ a k l. absurd (omega arith);
}

-- once all rows but the last are gathered
pub gathered_all : (n : ℕ) {rows bars : List ℕ} {j both : ℕ} → Gathered rows bars j both → j ≤ n - 1 → n - 1 ≤ j → Clashes n rows bars (ltb 0 both)
gathered_all n {rows} {bars} {j} {both} g l m = go (ltb 0 both) refl
  where
    go : (t : Bool) → ltb 0 both ≡ t → Clashes n rows bars t
    go true e =
        ⊎_elim
        (λ f. let x = g.met f.0 f.2 in (x.0, f.0, omega arith, f.1, x.2, x.3))
        (λ f. let z : both ≡ 0 = (zero_bits limits.longest both g.fits).1 f in absurd (omega (arith, ltb-true 0 both e)))
        (some_digit both limits.longest)
    go false e =
        λ a k p q r.
        not_so (bit (get_or bars a 0) k)
        (λ s.
        let z : both ≡ 0 = omega (arith, ltb-false 0 both e) in
        true≢false (sym (g.all a k (omega arith) r s) ∙ ap (λ (x : ℕ). bit x k) z ∙ bit_zero k))
