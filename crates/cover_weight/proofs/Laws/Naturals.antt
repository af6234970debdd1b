-- Whole numbers are weights that the laws of covers hold for.
use Prim.Native.Nat.{ℕ, ◌<◌}
use mathlib.Core.Path.{◌≡◌}
use mathlib.Core.Logic.{◌⊎◌, inl, inr}
use native.Mathlib.Nat.{zero-add, add_comm, add_assoc}
use native.Mathlib.Omega.{arith}
use native.Mathlib.Decide.{dec_lt}
use Rattle.cover_rules.specs.Weights.{Lawful}
use Rattle.cover_weight.specs.Edition.{naturals}

pub one_of_three : (a b : ℕ) → (a < b) ⊎ ((a ≡ b) ⊎ (b < a))
one_of_three a b = go (dec_lt a b) (dec_lt b a)
  where
    go : Dec (a < b) → Dec (b < a) → (a < b) ⊎ ((a ≡ b) ⊎ (b < a))
    go (yes h) q = inl h
    go (no h) (yes g) = inr (inr g)
    go (no h) (no g) = inr (inl (omega arith))

pub naturals_lawful : Lawful naturals
naturals_lawful = record {
  none_add = zero-add;
  comm = add_comm;
  assoc = add_assoc;
  total = one_of_three;
  irrefl = λ a h. omega arith;
  trans = λ a b c h g. omega arith;
  keeps = λ a b c h. omega arith;
}
