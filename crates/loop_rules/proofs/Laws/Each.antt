-- What holds of each of some loops: it holds of those of two lists in a row, and of the one at a place, by going down the list.
use mathlib.Core.List.{List, [], ◌∷◌, ◌++◌}
use Prim.Native.Nat.{ℕ, zero, suc, ◌<◌}
use native.Mathlib.Nat.{not-suc-le-zero}
use native.Mathlib.Omega.{arith}
use lib.ListN.{length, get_or}

-- P holds of each of the loops ls
unfoldable pub Each : (List ℕ → Type 0) → List (List ℕ) → Type 0
Each P [] = Unit {0}
Each P (l ∷ ls) = P l × Each P ls

module _ (P : List ℕ → Type 0) where
  pub each_none : Each P []
  unfolding Each
  each_none = tt

  pub each_one : (l : List ℕ) → P l → Each P (l ∷ [])
  unfolding Each
  each_one l h = (h, tt)

  pub each_append : (a b : List (List ℕ)) → Each P a → Each P b → Each P (a ++ b)
  unfolding Each
  each_append [] b ha hb = hb
  each_append (l ∷ a) b ha hb = (ha.0, each_append a b ha.1 hb)

  pub each_at : (ls : List (List ℕ)) → Each P ls → (i : ℕ) → i < length ls → P (get_or ls i [])
  unfolding Each
  each_at [] h i l = absurd (not-suc-le-zero l)
  each_at (x ∷ ls) h zero l = h.0
  each_at (x ∷ ls) h (suc i) l = each_at ls h.1 i (omega arith)

  pub at_each : (ls : List (List ℕ)) → ((i : ℕ) → i < length ls → P (get_or ls i [])) → Each P ls
  unfolding Each
  at_each [] h = tt
  at_each (x ∷ ls) h = (h 0 (omega arith), at_each ls (λ i l. h (suc i) (omega arith)))
