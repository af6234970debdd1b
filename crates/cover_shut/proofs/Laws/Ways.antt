-- A stretch has an allowed cover only if it is a side, or is not barred and has an apex with an allowed cover before it and after it.
use mathlib.Core.Path.{◌≡◌, sym, ap, ap₂, ◌∙◌}
use mathlib.Core.Bool.{Bool, true, false, not, ◌&&◌, true≢false}
use Prim.Native.Nat.{ℕ, ◌+◌, ◌<◌}
use native.Mathlib.Omega.{arith}
use lib.Bits.{bit_and}
use lib.Dec.{eqb}
use borrow.Author.Tests.{eqb-true, not-false}
use Rattle.cover_bits.specs.Workings.Masks.{bit}
use Rattle.cover_bits.proofs.Laws.Masks.{and_bit, bit_zero}
use Rattle.cover_rules.specs.Covers.{Cover, empty, apex, Allowed, NoCover}
use Rattle.cover_rules.proofs.Laws.Parts.{allowed_before, allowed_after, allowed_free}
use Rattle.cover_shut.specs.Workings.Shut.{NoWay}

-- words with a digit in common have an and that is not 0
and_shared : (x y m : ℕ) → bit x m ≡ true → bit y m ≡ true → bit_and x y ≡ 0 → ⊥
and_shared x y m p q e = true≢false (sym (and_bit x y m ∙ ap₂ ◌&&◌ p q) ∙ ap (λ (z : ℕ). bit z m) e ∙ bit_zero m)

module _ {row i k before after : ℕ} where
  pub barred_none : {t : Bool} → (i + 1 ≡ k → ⊥) → t ≡ bit row k → t ≡ true → NoWay row i k before after
  barred_none s b e = record { no_side = s; no_apex = λ f m p q. true≢false (sym e ∙ b ∙ f) }

  pub apart_none : (i + 1 ≡ k → ⊥) → not (eqb (bit_and before after) 0) ≡ false → NoWay row i k before after
  apart_none s e = record { no_side = s; no_apex = λ f m p q. and_shared before after m p q (eqb-true _ _ (not-false _ e)) }

  -- if all stretches within i..k with an allowed cover are marked, i..k has none
  pub none_covers : {barred : ℕ → ℕ → Bool} → NoWay row i k before after → barred i k ≡ bit row k
      → ((m : ℕ) (c : Cover) → m < k → Allowed barred i m c → bit before m ≡ true)
      → ((m : ℕ) (c : Cover) → i < m → m < k → Allowed barred m k c → bit after m ≡ true)
      → NoCover barred i k
  none_covers w b left right empty h = w.no_side (omega (arith, h.covers))
  none_covers w b left right (apex m c d) h =
      w.no_apex (sym b ∙ allowed_free _ _ _ _ _ _ h) m
      (left m c h.covers.1 (allowed_before _ _ _ _ _ _ h))
      (right m d h.covers.0 h.covers.1 (allowed_after _ _ _ _ _ _ h))
