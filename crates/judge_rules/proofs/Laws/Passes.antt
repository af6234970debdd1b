-- A set is passed exactly if all its loops are right and no corner is left over: a fault is never `Done`.
use mathlib.Core.Path.{◌≡◌, refl, sym, ap}
use mathlib.Core.Logic.{inl, inr}
use mathlib.Core.Bool.{Bool}
use mathlib.Core.List.{List, [], ◌∷◌, ◌++◌}
use Prim.Native.Nat.{ℕ, suc, ◌+◌}
use native.Mathlib.Omega.{arith}
use lib.IntN.{ℤ}
use lib.ListN.{take, drop}
use Rattle.base_answers.specs.declared.Answer.TheVariants.{Done}
use Rattle.base_answers.specs.Numbers.{number_of}
use Rattle.judge_rules.specs.Verdicts.{taken, left_over, Verdict, AllRight}
use Rattle.judge_rules.proofs.Theorems.{fault_said_if}

none_left : (at : ℕ) (set : List ℕ) → Done ≡ left_over at set → set ≡ []
none_left at [] e = refl
none_left at (x ∷ set) e = absurd (omega (arith, ap number_of e))

pub passes_right : (grid : List ℤ) (input laid : List ℕ) (l at : ℕ) (rims : List Bool) (rings : List (List ℕ)) (states set : List ℕ)
    → Verdict grid input laid l at rims rings states set Done → AllRight grid input laid rims rings states set
passes_right grid input laid l at [] [] [] set v = none_left at set v
passes_right grid input laid l at [] [] (s ∷ states) set v = absurd v
passes_right grid input laid l at [] (r ∷ rings) states set v = absurd v
passes_right grid input laid l at (k ∷ rims) [] states set v = absurd v
passes_right grid input laid l at (k ∷ rims) (r ∷ rings) [] set v = absurd v
passes_right grid input laid l at (k ∷ rims) (r ∷ rings) (s ∷ states) set (inl f) = absurd (fault_said_if grid input laid l k r s set Done f refl)
passes_right grid input laid l at (k ∷ rims) (r ∷ rings) (s ∷ states) set (inr v) =
    let n = taken r s in
    (v.0, passes_right grid input (laid ++ take n set) (suc l) (at + n) rims rings states (drop n set) v.1)

pub right_passes : (grid : List ℤ) (input laid : List ℕ) (l at : ℕ) (rims : List Bool) (rings : List (List ℕ)) (states set : List ℕ)
    → AllRight grid input laid rims rings states set → Verdict grid input laid l at rims rings states set Done
right_passes grid input laid l at [] [] [] set h = ap (left_over at) (sym h)
right_passes grid input laid l at [] [] (s ∷ states) set h = absurd h
right_passes grid input laid l at [] (r ∷ rings) states set h = absurd h
right_passes grid input laid l at (k ∷ rims) [] states set h = absurd h
right_passes grid input laid l at (k ∷ rims) (r ∷ rings) [] set h = absurd h
right_passes grid input laid l at (k ∷ rims) (r ∷ rings) (s ∷ states) set h =
    let n = taken r s in
    inr (h.0, right_passes grid input (laid ++ take n set) (suc l) (at + n) rims rings states (drop n set) h.1)
