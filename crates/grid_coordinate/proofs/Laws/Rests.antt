-- Whole number and rest, over the pitch: no multiple of the pitch lies nearer, the rest is at most half a pitch, and where it is
-- just that the multiple is an even one.
use mathlib.Core.Path.{◌≡◌, refl, sym, ap, ◌∙◌, subst}
use mathlib.Core.Bool.{Bool, true, false, not}
use Prim.Native.Nat.{ℕ, zero, suc, ◌+◌, ◌*◌, ◌%◌, ◌≤◌, ◌<◌}
use native.Mathlib.Nat.{le_trans, le_of_eq, mul_assoc, mul-pos, zero-mul, le-add_right}
use lib.Pow.{pow_pos}
use lib.IntN.{ℤ, pos, neg_ℤ, nat_abs, ◌+ℤ◌, ◌-ℤ◌, ◌*ℤ◌, neg_ℤ-+ℤ, neg_ℤ-neg_ℤ}
use lib.Ieee.Nearest.{closest}
use Rattle.grid_coordinate.specs.Units.{one, signed}
use Rattle.grid_coordinate.specs.Places.{whole, rest}
use Rattle.grid_coordinate.proofs.Laws.Nearest.{apart, Near, closest_near, closest_zero, near_nearest, near_own}
use Rattle.grid_coordinate.proofs.Laws.Signs.{split, abs_signed, mul_signed, abs_difference}

module _ (p : ℕ) (P : 0 < p) where
  pitch_pos : 0 < p * one
  pitch_pos = mul-pos P (pow_pos 149)

  pub whole_signed : (s : Bool) (n : ℕ) → whole p (signed s n) ≡ signed s (closest n (p * one) * p)
  unfolding whole
  whole_signed false n = refl
  whole_signed true zero = nothing pos ∙ sym (nothing (λ (x : ℕ). neg_ℤ (pos x)))
    where
      nothing : (f : ℕ → ℤ) → f (closest 0 (p * one) * p) ≡ f 0
      nothing f = ap (λ (x : ℕ). f (x * p)) (closest_zero (p * one) pitch_pos) ∙ ap f (zero-mul p)
  whole_signed true (suc n) = refl

  pub rest_signed : (s : Bool) (n : ℕ) → rest p (signed s n) ≡ signed s n -ℤ signed s (closest n (p * one) * p * one)
  rest_signed s n = ap (λ (z : ℤ). signed s n -ℤ z *ℤ pos one) (whole_signed s n) ∙ ap (λ (z : ℤ). signed s n -ℤ z) (mul_signed s (closest n (p * one) * p) one)

  rest_size : (s : Bool) (n : ℕ) → nat_abs (rest p (signed s n)) ≡ apart n (closest n (p * one) * (p * one))
  rest_size s n = ap nat_abs (rest_signed s n) ∙ abs_difference s n (closest n (p * one) * p * one) ∙ ap (apart n) (mul_assoc (closest n (p * one)) p one)

  near : (n : ℕ) → Near n (p * one) (closest n (p * one))
  near n = closest_near n (p * one) pitch_pos

  -- "at most one half in size"
  pub rest_half : (z : ℤ) → nat_abs (rest p z) * 2 ≤ p * one
  rest_half z =
      let y = split z in
      subst (λ (z : ℤ). nat_abs (rest p z) * 2 ≤ p * one) (sym y.2) (subst (λ (n : ℕ). n * 2 ≤ p * one) (sym (rest_size y.0 y.1)) (near y.1).half)

  -- "a tie going to the even one"
  pub tie_even : (z : ℤ) → nat_abs (rest p z) * 2 ≡ p * one → (m : ℕ) × (nat_abs (whole p z) ≡ m * p) × (m % 2 ≡ 0)
  tie_even z e =
      let y = split z in
      let n = y.1 in (
        closest n (p * one),
        ap (λ (z : ℤ). nat_abs (whole p z)) y.2 ∙ ap nat_abs (whole_signed y.0 n) ∙ abs_signed y.0 (closest n (p * one) * p),
        (near n).even (ap (λ (k : ℕ). k * 2) (sym (rest_size y.0 n) ∙ sym (ap (λ (z : ℤ). nat_abs (rest p z)) y.2)) ∙ e),
      )

  -- "the nearest": no multiple of the pitch, of either sign, lies nearer to z units
  across : (s : Bool) (a b : ℕ) → nat_abs (signed s a -ℤ signed (not s) b) ≡ a + b
  across false a b = ap (λ (z : ℤ). nat_abs (pos a +ℤ z)) (neg_ℤ-neg_ℤ (pos b))
  across true a b = ap nat_abs (sym (neg_ℤ-+ℤ (pos a) (pos b))) ∙ abs_signed true (a + b)

  pub whole_nearest : (z : ℤ) (s : Bool) (m : ℕ) → nat_abs (rest p z) ≤ nat_abs (z -ℤ signed s (m * (p * one)))
  whole_nearest z s m =
      let y = split z in
      subst (λ (z : ℤ). nat_abs (rest p z) ≤ nat_abs (z -ℤ signed s (m * (p * one)))) (sym y.2) (go y.0 s y.1)
    where
      alike : (r : Bool) (n : ℕ) → nat_abs (rest p (signed r n)) ≤ nat_abs (signed r n -ℤ signed r (m * (p * one)))
      alike r n = le_trans (le_of_eq (rest_size r n)) (le_trans (near_nearest (near n) m) (le_of_eq (sym (abs_difference r n (m * (p * one))))))

      unlike : (r : Bool) (n : ℕ) → nat_abs (rest p (signed r n)) ≤ nat_abs (signed r n -ℤ signed (not r) (m * (p * one)))
      unlike r n = le_trans (le_of_eq (rest_size r n)) (le_trans (near_own (near n)) (le_trans (le-add_right n (m * (p * one))) (le_of_eq (sym (across r n (m * (p * one)))))))

      go : (r s : Bool) (n : ℕ) → nat_abs (rest p (signed r n)) ≤ nat_abs (signed r n -ℤ signed s (m * (p * one)))
      go true true n = alike true n
      go false false n = alike false n
      go true false n = unlike true n
      go false true n = unlike false n
