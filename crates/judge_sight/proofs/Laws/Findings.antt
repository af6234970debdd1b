-- What is found of a loop: one of which nothing was said is right, and a verdict is its fault.
use mathlib.Core.Path.{◌≡◌, refl, sym, ap}
use mathlib.Core.Bool.{Bool, true, false, true≢false}
use mathlib.Core.List.{List}
use Prim.Native.Nat.{ℕ}
use lib.IntN.{ℤ}
use Rattle.base_answers.specs.declared.Answer.{Answer}
use Rattle.base_answers.specs.declared.Answer.TheVariants.{Done, Refused, Failed}
use Rattle.base_answers.specs.declared.Verdict.{Verdict}
use Rattle.judge_rules.specs.Faults.{Right, Fault}
use Rattle.judge_rules.proofs.Theorems.{fault_said}
use Rattle.judge_sight.specs.Workings.Findings.{Finds, right, fault}

abbrev is_done : Answer → Bool
is_done Done = true
is_done (Refused r) = false
is_done (Failed v) = false

-- a verdict is not `Done`
pub failed_not_done : {v : Verdict} → Failed v ≡ Done → ⊥
failed_not_done e = true≢false (sym (ap is_done e))

module _ {grid : List ℤ} {input laid : List ℕ} {l : ℕ} {ring : List ℕ} {state : ℕ} {set : List ℕ} where
  pub done_right : Finds grid input laid l ring state set Done → Right grid input laid ring state set
  done_right (right e r) = r
  done_right (fault f) = absurd (fault_said f refl)

  pub failed_fault : {v : Verdict} → Finds grid input laid l ring state set (Failed v) → Fault grid input laid l ring state set (Failed v)
  failed_fault (right e r) = absurd (failed_not_done e)
  failed_fault (fault f) = f
