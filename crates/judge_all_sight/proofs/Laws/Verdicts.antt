-- From loop to loop to the verdict: as long as all loops so far are right, the verdict on those that are left is the verdict on all.
use mathlib.Core.Path.{◌≡◌, refl, sym, ap, ◌∙◌, subst}
use mathlib.Core.Bool.{Bool, true, false}
use mathlib.Core.Logic.{inl, inr}
use mathlib.Core.List.{List, [], ◌∷◌, ◌++◌, flatten}
use Prim.Native.Nat.{ℕ, suc, ◌+◌, ◌-◌, ◌≤◌, ◌<◌}
use native.Mathlib.Nat.{add-zero}
use native.Mathlib.Numerals.{add-one}
use native.Mathlib.Omega.{arith}
use lib.Dec.{eqb}
use lib.IntN.{ℤ}
use lib.ListN.{length, get_or, take, drop, length-append, length-drop, drop_of_length-le}
use lib.Seq.{drop-cons, drop-drop, take-add}
use borrow.Author.Tests.{eq-eqb, ne_eqb}
use Rattle.base_answers.specs.declared.Answer.{Answer}
use Rattle.base_answers.specs.Answers.{Misdeclared}
use Rattle.base_answers.specs.declared.Answer.TheVariants.{Done, Failed}
use Rattle.base_answers.specs.declared.Verdict as of_loop
use Rattle.judge_rules.specs.Faults.{RightIf, FaultIf}
use Rattle.judge_rules.specs.Verdicts.{taken, left_over, Verdict}
use Rattle.judge_rules.proofs.Laws.Filled.{takes_if}
use Rattle.fill_scratch.specs.Workings.Rings.{RingOf, Loops, rim_mark}
use Rattle.fill_scratch.proofs.Laws.Reading.{as_many, length_at, ring_at_lem, ring_next}
use Rattle.judge_sight.specs.Workings.Findings.{Finds}
use Rattle.judge_sight.proofs.Laws.Findings.{done_right, failed_fault}
use Rattle.judge_all_sight.specs.Workings.Gives.{Declared, VerdictRoom}

-- there are a state and a mark for each loop
module _ {grid : List ℤ} {input rings lengths marks states : List ℕ} (room : VerdictRoom grid input rings lengths marks states) where
  pub states_many : length states ≡ length lengths
  states_many = room.declared.states_many ∙ sym (as_many grid input room.rs rings lengths room.loops)

  pub marks_long : length lengths ≤ length marks
  marks_long =
      let a : length lengths ≡ length room.rs = as_many grid input room.rs rings lengths room.loops in
      let d : length room.rims ≡ length room.rs = room.declared.rims_many in
      let m : length room.rims ≤ length marks = room.declared.marked.long in
      omega arith

-- the first l loops are right: they have r ring vertices and take the set up to `at`
pub record Gone (grid : List ℤ) (input : List ℕ) (rims : List Bool) (rs : List (List ℕ)) (states set : List ℕ) (l r at : ℕ) : Type 0 where
  pub read : r ≡ length (flatten (take l rs))
  pub within : at ≤ length set
  pub goes : (a : Answer) → Verdict grid input (take at set) l at (drop l rims) (drop l rs) (drop l states) (drop at set) a → Verdict grid input [] 0 0 rims rs states set a

module _ {grid : List ℤ} {input : List ℕ} {rims : List Bool} {rs : List (List ℕ)} {states set : List ℕ} where
  pub gone_begins : Gone grid input rims rs states set 0 0 0
  unfolding flatten
  gone_begins = record { read = refl; within = omega arith; goes = λ a v. v }

  pub gone_ends : {l r at : ℕ} {a : Answer} → length rims ≡ length rs → length states ≡ length rs → length rs ≤ l → Gone grid input rims rs states set l r at → a ≡ left_over at (drop at set)
      → Verdict grid input [] 0 0 rims rs states set a
  gone_ends {l} {r} {at} {a} i d h g e =
      let m : length states ≤ l = omega arith in
      let n : length rims ≤ l = omega arith in
      g.goes a
      (subst (λ (x : List Bool). Verdict grid input (take at set) l at x (drop l rs) (drop l states) (drop at set) a) (sym (drop_of_length-le rims n))
      (subst (λ (x : List (List ℕ)). Verdict grid input (take at set) l at [] x (drop l states) (drop at set) a) (sym (drop_of_length-le rs h))
      (subst (λ (x : List ℕ). Verdict grid input (take at set) l at [] [] x (drop at set) a) (sym (drop_of_length-le states m)) e)))

  module _ {l r at : ℕ} (h : l < length rs) (i : length rims ≡ length rs) (d : length states ≡ length rs) (g : Gone grid input rims rs states set l r at) where
    abbrev ring : List ℕ
    ring = get_or rs l []

    abbrev kind : Bool
    kind = get_or rims l false

    abbrev state : ℕ
    state = get_or states l 0

    next : (a : Answer) → Verdict grid input (take at set) l at (kind ∷ drop (suc l) rims) (ring ∷ drop (suc l) rs) (state ∷ drop (suc l) states) (drop at set) a → Verdict grid input [] 0 0 rims rs states set a
    next a v =
        g.goes a
        (subst (λ (x : List Bool). Verdict grid input (take at set) l at x (drop l rs) (drop l states) (drop at set) a) (sym (drop-cons rims l false (omega arith)))
        (subst (λ (x : List (List ℕ)). Verdict grid input (take at set) l at (kind ∷ drop (suc l) rims) x (drop l states) (drop at set) a) (sym (drop-cons rs l [] h))
        (subst (λ (x : List ℕ). Verdict grid input (take at set) l at (kind ∷ drop (suc l) rims) (ring ∷ drop (suc l) rs) x (drop at set) a) (sym (drop-cons states l 0 (omega arith))) v)))

    fault_decides : (a : Answer) → FaultIf grid input (take at set) l kind ring state (drop at set) a → Verdict grid input [] 0 0 rims rs states set a
    fault_decides a f = next a (inl f)

    -- what is left after k corners more
    rest : (a : Answer) (k : ℕ) → Verdict grid input (take (at + k) set) (l + 1) (at + k) (drop (l + 1) rims) (drop (l + 1) rs) (drop (l + 1) states) (drop (at + k) set) a
        → Verdict grid input (take at set ++ take k (drop at set)) (suc l) (at + k) (drop (suc l) rims) (drop (suc l) rs) (drop (suc l) states) (drop k (drop at set)) a
    rest a k v =
        subst (λ (x : List ℕ). Verdict grid input x (suc l) (at + k) (drop (suc l) rims) (drop (suc l) rs) (drop (suc l) states) (drop k (drop at set)) a) (take-add at k set)
        (subst (λ (x : List ℕ). Verdict grid input (take (at + k) set) (suc l) (at + k) (drop (suc l) rims) (drop (suc l) rs) (drop (suc l) states) x a) (sym (drop-drop k at set))
        (subst (λ (n : ℕ). Verdict grid input (take (at + k) set) n (at + k) (drop n rims) (drop n rs) (drop n states) (drop (at + k) set) a) (add-one l) v))

    right_goes : (k n : ℕ) → RightIf grid input (take at set) kind ring state (drop at set) → k ≡ taken ring state → n ≡ length ring → Gone grid input rims rs states set (l + 1) (r + n) (at + k)
    right_goes k n w ek en =
        let t : taken ring state ≤ length (drop at set) = takes_if grid input (take at set) kind ring state (drop at set) w in
        let m : length (drop at set) ≡ length set - at = length-drop at set in
        let i : at ≤ length set = g.within in
        let f : length (flatten (take (l + 1) rs)) ≡ length (flatten (take l rs)) + length ring = ap length (ring_next rs l h) ∙ length-append (flatten (take l rs)) ring in
        let e : r ≡ length (flatten (take l rs)) = g.read in
        record {
          read = omega arith;
          within = omega arith;
          goes = λ a v. next a (inr (w, rest a (taken ring state) (subst (λ (j : ℕ). Verdict grid input (take (at + j) set) (l + 1) (at + j) (drop (l + 1) rims) (drop (l + 1) rs) (drop (l + 1) states) (drop (at + j) set) a) ek v)));
        }

-- ---- the same by the rings as they stand one after the other

module _ {grid : List ℤ} {input : List ℕ} {rims : List Bool} {rs : List (List ℕ)} {rings lengths : List ℕ} (s : Loops grid input rs rings lengths) {marks states set : List ℕ} (d : Declared rims rs marks states)
    {l r at : ℕ} (h : l < length lengths) (g : Gone grid input rims rs states set l r at) where
  abbrev part : List ℕ
  part = take (r + get_or lengths l 0 - r) (drop r rings)

  below : l < length rs
  below = let a : length lengths ≡ length rs = as_many grid input rs rings lengths s in omega arith

  part_is : part ≡ get_or rs l []
  part_is = ring_at_lem grid input rs rings lengths s l r below g.read

  length_here : get_or lengths l 0 ≡ length (get_or rs l [])
  length_here = length_at grid input rs rings lengths s l below

  pub ring_here : RingOf grid input part
  ring_here = subst (RingOf grid input) (sym part_is) (s.each l below)

  told : eqb (get_or marks l 0) rim_mark ≡ get_or rims l false
  told = d.marked.told l (let b = below in let m = d.rims_many in omega arith)

  -- ---- a rim

  module _ (m : get_or marks l 0 ≡ rim_mark) where
    is_a_rim : true ≡ get_or rims l false
    is_a_rim = sym (eq-eqb (get_or marks l 0) rim_mark m) ∙ told

    -- a state other than its own decides,
    pub rim_decides : (get_or states l 0 ≡ rim_mark → ⊥) → Verdict grid input [] 0 0 rims rs states set (Misdeclared l)
    rim_decides n =
        fault_decides below d.rims_many d.states_many g (Misdeclared l)
        (subst (λ (k : Bool). FaultIf grid input (take at set) l k (get_or rs l []) (get_or states l 0) (drop at set) (Misdeclared l)) is_a_rim (refl, n))

    -- and after its own the next loop comes
    pub rim_goes : get_or states l 0 ≡ rim_mark → Gone grid input rims rs states set (l + 1) (r + get_or lengths l 0) at
    rim_goes e =
        subst (Gone grid input rims rs states set (l + 1) (r + get_or lengths l 0)) (add-zero at)
        (right_goes below d.rims_many d.states_many g 0 (get_or lengths l 0)
        (subst (λ (k : Bool). RightIf grid input (take at set) k (get_or rs l []) (get_or states l 0) (drop at set)) is_a_rim e)
        (ap (taken (get_or rs l [])) (sym e)) length_here)

  -- ---- another loop

  module _ (no' : get_or marks l 0 ≡ rim_mark → ⊥) where
    is_other : false ≡ get_or rims l false
    is_other = sym (ne_eqb (get_or marks l 0) rim_mark no') ∙ told

    -- a turn that gave a verdict decides,
    pub turn_decides : {v : of_loop.Verdict} → Finds grid input (take at set) l part (get_or states l 0) (drop at set) (Failed v) → Verdict grid input [] 0 0 rims rs states set (Failed v)
    turn_decides {v} f =
        fault_decides below d.rims_many d.states_many g (Failed v)
        (subst (λ (k : Bool). FaultIf grid input (take at set) l k (get_or rs l []) (get_or states l 0) (drop at set) (Failed v)) is_other
        (failed_fault
        (subst (λ (x : List ℕ). Finds grid input (take at set) l x (get_or states l 0) (drop at set) (Failed v)) part_is f)))

    -- and after one that gave none the next loop comes
    pub turn_goes : {k : ℕ} → Finds grid input (take at set) l part (get_or states l 0) (drop at set) Done
        → ((ring : List ℕ) → length ring ≡ r + get_or lengths l 0 - r → k ≡ taken ring (get_or states l 0)) → Gone grid input rims rs states set (l + 1) (r + get_or lengths l 0) (at + k)
    turn_goes {k} f t =
        let n : get_or lengths l 0 ≡ length (get_or rs l []) = length_here in
        right_goes below d.rims_many d.states_many g k (get_or lengths l 0)
        (subst (λ (k : Bool). RightIf grid input (take at set) k (get_or rs l []) (get_or states l 0) (drop at set)) is_other
        (done_right
        (subst (λ (x : List ℕ). Finds grid input (take at set) l x (get_or states l 0) (drop at set) Done) part_is f)))
        (t (get_or rs l []) (omega arith)) n
