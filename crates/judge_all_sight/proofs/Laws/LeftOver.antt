-- Corners are left over where the set goes on behind what was taken.
use mathlib.Core.Path.{◌≡◌, sym, ap}
use mathlib.Core.List.{List}
use Prim.Native.Nat.{ℕ, ◌≤◌, ◌<◌}
use lib.ListN.{length, drop, drop_of_length-le}
use lib.Seq.{drop-cons}
use Rattle.base_answers.specs.Answers.{LeftOver}
use Rattle.base_answers.specs.declared.Answer.TheVariants.{Done}
use Rattle.judge_rules.specs.Verdicts.{left_over}

module _ (set : List ℕ) (at : ℕ) where
  pub some_left : at < length set → LeftOver at ≡ left_over at (drop at set)
  some_left h = ap (left_over at) (sym (drop-cons set at 0 h))

  pub none_left : length set ≤ at → Done ≡ left_over at (drop at set)
  none_left h = ap (left_over at) (sym (drop_of_length-le set h))
