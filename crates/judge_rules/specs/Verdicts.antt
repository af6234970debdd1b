-- The verdict on a patch set, over all loops in listed order.
use Rattle.std.specs.Prelude.{◌≡◌, Bool, cond, ◌⊎◌, List, [], ◌∷◌, ◌++◌, ℕ, suc, ◌+◌, eqb, ℤ, take, drop}
use Rattle.base_answers.specs.declared.Answer.{Answer}
use Rattle.base_answers.specs.Answers.{LeftOver}
use Rattle.base_answers.specs.declared.Answer.TheVariants.{Done}
use Rattle.base_limits.specs.States as stated
use Rattle.judge_rules.specs.Faults.{share, RightIf, FaultIf}

-- only a loop that is declared patched takes corners
abbrev pub taken : List ℕ → ℕ → ℕ
taken ring state = cond (eqb state stated.patched) (share ring) 0

-- 15: "corners left after the last loop", and the "index of the first"
abbrev pub left_over : ℕ → List ℕ → Answer
left_over at [] = Done
left_over at (x ∷ set) = LeftOver at

module _ (grid : List ℤ) (input : List ℕ) where
  -- The verdict a, where loop l is the first of these rings and `at` corners were taken before it: "the first loop that has one decides;
  -- 15 comes last".
  abbrev pub Verdict : List ℕ → ℕ → ℕ → List Bool → List (List ℕ) → List ℕ → List ℕ → Answer → Type 0
  Verdict laid l at [] [] [] set a = a ≡ left_over at set
  Verdict laid l at [] [] (s ∷ states) set a = ⊥
  Verdict laid l at [] (r ∷ rings) states set a = ⊥
  Verdict laid l at (k ∷ rims) [] states set a = ⊥
  Verdict laid l at (k ∷ rims) (r ∷ rings) [] set a = ⊥
  Verdict laid l at (k ∷ rims) (r ∷ rings) (s ∷ states) set a =
      let n = taken r s in
      FaultIf grid input laid l k r s set a
      ⊎ (RightIf grid input laid k r s set × Verdict (laid ++ take n set) (suc l) (at + n) rims rings states (drop n set) a)

  -- No corner is left over, and loop by loop each loop is right.
  abbrev pub AllRight : List ℕ → List Bool → List (List ℕ) → List ℕ → List ℕ → Type 0
  AllRight laid [] [] [] set = set ≡ []
  AllRight laid [] [] (s ∷ states) set = ⊥
  AllRight laid [] (r ∷ rings) states set = ⊥
  AllRight laid (k ∷ rims) [] states set = ⊥
  AllRight laid (k ∷ rims) (r ∷ rings) [] set = ⊥
  AllRight laid (k ∷ rims) (r ∷ rings) (s ∷ states) set =
      let n = taken r s in
      RightIf grid input laid k r s set × AllRight (laid ++ take n set) rims rings states (drop n set)

-- what each loop takes of the set
abbrev pub parts : List (List ℕ) → List ℕ → List ℕ → List (List ℕ)
parts [] states set = []
parts (r ∷ rings) [] set = []
parts (r ∷ rings) (s ∷ states) set = let k = taken r s in take k set ∷ parts rings states (drop k set)
