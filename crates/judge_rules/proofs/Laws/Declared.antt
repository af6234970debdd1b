-- A loop that is declared patched and is not long is declared rightly.
use mathlib.Core.Path.{◌≡◌}
use mathlib.Core.List.{List}
use Prim.Native.Nat.{ℕ, ◌≤◌}
use native.Mathlib.Omega.{arith}
use lib.ListN.{length}
use Rattle.base_limits.specs.Limits as limits
use Rattle.base_limits.specs.States as stated
use Rattle.judge_rules.specs.Faults.{WrongState, no_state, two_on_a_short, not_two_on_a_long, three_with_a_cover, DeclaredPatched}

module _ (input laid ring : List ℕ) (state : ℕ) (one : state ≡ stated.patched) (short : length ring ≤ limits.longest) where
  one_not_wrong : WrongState input laid ring state → ⊥
  one_not_wrong (no_state x y z) = x one
  one_not_wrong (two_on_a_short e s) = omega arith
  one_not_wrong (not_two_on_a_long e s) = omega arith
  one_not_wrong (three_with_a_cover e c a) = omega arith

  pub declared_patched : DeclaredPatched input laid ring state
  declared_patched = record { is_one = one; not_wrong = one_not_wrong }
