-- All loops are right, one after the other, exactly if each is right with what the loops before it took, and no corner is left over.
use mathlib.Core.Path.{◌≡◌, refl, sym, ap, ap₂, ◌∙◌, subst}
use mathlib.Core.Bool.{Bool, false}
use mathlib.Core.List.{List, [], ◌∷◌, ◌++◌, append-nil, append_assoc}
use Prim.Native.Nat.{ℕ, zero, suc, ◌+◌, ◌-◌, ◌≤◌, ◌<◌}
use native.Mathlib.Nat.{not-suc-le-zero}
use native.Mathlib.Omega.{arith}
use lib.IntN.{ℤ}
use lib.ListN.{length, get_or, take, drop, length-drop}
use lib.Seq.{take-add, drop-drop}
use Rattle.judge_rules.specs.Faults.{RightIf}
use Rattle.judge_rules.specs.Verdicts.{taken, AllRight}
use Rattle.judge_rules.proofs.Laws.Filled.{takes_if}
use Rattle.demands.specs.Sets.{begins}

-- loop l is right, behind the corners `laid`
abbrev pub RightAt : List ℤ → List ℕ → List ℕ → List Bool → List (List ℕ) → List ℕ → List ℕ → ℕ → Type 0
RightAt grid input laid rims rings states set l =
    RightIf grid input (laid ++ take (begins rings states l) set) (get_or rims l false) (get_or rings l []) (get_or states l 0) (drop (begins rings states l) set)

-- the first loop's place, and the places after it
module _ (grid : List ℤ) (input laid : List ℕ) (k : Bool) (r : List ℕ) (rims : List Bool) (rings : List (List ℕ)) (s : ℕ) (states set : List ℕ) where
  first_is : RightIf grid input laid k r s set ≡ RightAt grid input laid (k ∷ rims) (r ∷ rings) (s ∷ states) set 0
  first_is = ap (λ (x : List ℕ). RightIf grid input x k r s set) (sym (append-nil laid))

  later_is : (l : ℕ) → RightAt grid input (laid ++ take (taken r s) set) rims rings states (drop (taken r s) set) l
      ≡ RightAt grid input laid (k ∷ rims) (r ∷ rings) (s ∷ states) set (suc l)
  later_is l =
      let n = taken r s in
      let b = begins rings states l in
      ap₂ (λ (x y : List ℕ). RightIf grid input x (get_or rims l false) (get_or rings l []) (get_or states l 0) y)
      (append_assoc laid (take n set) (take b (drop n set)) ∙ ap (λ (x : List ℕ). laid ++ x) (sym (take-add n b set)))
      (drop-drop b n set)

pub right_each : (grid : List ℤ) (input laid : List ℕ) (rims : List Bool) (rings : List (List ℕ)) (states set : List ℕ) → AllRight grid input laid rims rings states set
    → (l : ℕ) → l < length rings → RightAt grid input laid rims rings states set l
right_each grid input laid [] [] states set h l b = absurd (not-suc-le-zero b)
right_each grid input laid [] (r ∷ rings) states set h l b = absurd h
right_each grid input laid (k ∷ rims) [] states set h l b = absurd h
right_each grid input laid (k ∷ rims) (r ∷ rings) [] set h l b = absurd h
right_each grid input laid (k ∷ rims) (r ∷ rings) (s ∷ states) set h zero b = subst (λ (T : Type 0). T) (first_is grid input laid k r rims rings s states set) h.0
right_each grid input laid (k ∷ rims) (r ∷ rings) (s ∷ states) set h (suc l) b =
    subst (λ (T : Type 0). T) (later_is grid input laid k r rims rings s states set l)
    (right_each grid input (laid ++ take (taken r s) set) rims rings states (drop (taken r s) set) h.1 l (omega arith))

pub right_none_left : (grid : List ℤ) (input laid : List ℕ) (rims : List Bool) (rings : List (List ℕ)) (states set : List ℕ) → AllRight grid input laid rims rings states set
    → length set ≡ begins rings states (length rings)
right_none_left grid input laid [] [] [] set h = ap length h
right_none_left grid input laid [] [] (s ∷ states) set h = absurd h
right_none_left grid input laid [] (r ∷ rings) states set h = absurd h
right_none_left grid input laid (k ∷ rims) [] states set h = absurd h
right_none_left grid input laid (k ∷ rims) (r ∷ rings) [] set h = absurd h
right_none_left grid input laid (k ∷ rims) (r ∷ rings) (s ∷ states) set h =
    let n : ℕ = taken r s in
    let a : length (drop n set) ≡ begins rings states (length rings) = right_none_left grid input (laid ++ take n set) rims rings states (drop n set) h.1 in
    let b : length (drop n set) ≡ length set - n = length-drop n set in
    let c : n ≤ length set = takes_if grid input laid k r s set h.0 in
    let d : length set ≡ n + begins rings states (length rings) = omega arith in
    d

empty_of : (set : List ℕ) → length set ≡ 0 → set ≡ []
empty_of [] e = refl
empty_of (x ∷ set) e = absurd (omega arith)

pub each_right : (grid : List ℤ) (input laid : List ℕ) (rims : List Bool) (rings : List (List ℕ)) (states set : List ℕ) → length rims ≡ length rings → length states ≡ length rings
    → length set ≡ begins rings states (length rings) → ((l : ℕ) → l < length rings → RightAt grid input laid rims rings states set l) → AllRight grid input laid rims rings states set
each_right grid input laid [] [] [] set i d n h = empty_of set n
each_right grid input laid [] [] (s ∷ states) set i d n h = absurd (omega arith)
each_right grid input laid [] (r ∷ rings) states set i d n h = absurd (omega arith)
each_right grid input laid (k ∷ rims) [] states set i d n h = absurd (omega arith)
each_right grid input laid (k ∷ rims) (r ∷ rings) [] set i d n h = absurd (omega arith)
each_right grid input laid (k ∷ rims) (r ∷ rings) (s ∷ states) set i d n h =
    let m : ℕ = taken r s in
    let f : RightIf grid input laid k r s set = subst (λ (T : Type 0). T) (sym (first_is grid input laid k r rims rings s states set)) (h 0 (omega arith)) in
    let e : length set ≡ m + begins rings states (length rings) = n in
    let b : length (drop m set) ≡ length set - m = length-drop m set in (
      f,
      each_right grid input (laid ++ take m set) rims rings states (drop m set) (omega arith) (omega arith) (omega arith)
          (λ l z. subst (λ (T : Type 0). T) (sym (later_is grid input laid k r rims rings s states set l)) (h (suc l) (omega arith))),
    )
