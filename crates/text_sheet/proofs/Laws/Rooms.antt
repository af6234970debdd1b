-- How much room reading needs: scratch for no more than a text's limits allow and its bytes can fill, and buffers that are long enough.
use mathlib.Core.Path.{◌≡◌, sym}
use mathlib.Core.List.{[], ◌∷◌}
use Prim.Native.Nat.{ℕ, ◌*◌, ◌≤◌}
use native.Mathlib.Omega.{arith}
use Rattle.base_answers.specs.declared.Answer.TheVariants.{Done}
use Rattle.base_limits.specs.Limits as limits
use Rattle.surface_rules.specs.Refusals.{buffer_refusal}
use Rattle.surface_rules.proofs.Laws.Thens.{buffers_long}
use Rattle.text_sheet.specs.Workings.Parse.{Room}

pub room_less : (size most n long room : ℕ) → n ≤ most → Room size most long room → Room size n long room
unfolding Room
room_less size most n long room h r = λ k a b. r k (omega arith) b

-- a line `p=` has 29 bytes, and a line `t=` at least 8
module _ (long room : ℕ) where
  pub short_words : 3 * long ≤ 29 * room → Room 29 limits.points long room
  unfolding Room
  short_words h = λ k a b. omega arith

  pub short_corners : 3 * long ≤ 8 * room → Room 8 limits.triangles long room
  unfolding Room
  short_corners h = λ k a b. omega arith

module _ (long : ℕ) where
  pub long_words : Room 29 limits.points long limits.words
  unfolding Room
  long_words = λ k a b. omega arith

  pub long_corners : Room 8 limits.triangles long limits.corners
  unfolding Room
  long_corners = λ k a b. omega arith

-- where a check of two buffers refuses nothing, both are long enough
pub two_fit : {x y n m : ℕ} → Done ≡ buffer_refusal (x ∷ y ∷ []) (n ∷ m ∷ []) → (n ≤ x) × (m ≤ y)
two_fit {x} {y} {n} {m} e =
    (buffers_long (x ∷ y ∷ []) (n ∷ m ∷ []) (sym e) 0 (omega arith), buffers_long (x ∷ y ∷ []) (n ∷ m ∷ []) (sym e) 1 (omega arith))
