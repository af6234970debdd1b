-- What the loops of a right set take of it: each part fills its loop, all parts one after the other are the set, and a part is empty exactly
-- where the loop is declared long or open.
use mathlib.Core.Path.{◌≡◌, refl, sym, ap, ◌∙◌, subst}
use mathlib.Core.Bool.{Bool, cond, true, false}
use mathlib.Core.Logic.{◌⊎◌, inl, inr, ⊎_elim}
use mathlib.Core.List.{List, [], ◌∷◌, ◌++◌, flatten}
use Prim.Native.Nat.{ℕ, zero, suc, ◌<◌, ◌≤◌, zero-le}
use native.Mathlib.Nat.{not-suc-le-zero}
use native.Mathlib.Omega.{arith}
use lib.IntN.{ℤ}
use lib.ListN.{length, get_or, take, drop, take-append-drop}
use lib.Seq.{length-take-le}
use borrow.Author.Tests.{eq-eqb, ne_eqb}
use Rattle.base_limits.specs.States as stated
use Rattle.fill_edges.specs.Filling.{FillsRing, nothing, cover, Filled}
use Rattle.judge_rules.specs.Faults.{share, Right, patched, long, open_left, RightIf}
use Rattle.judge_rules.specs.Verdicts.{taken, AllRight, parts}
use Rattle.judge_rules.proofs.Theorems.{RingsApart, rings_rest}

-- ---- one loop

module _ (ring : List ℕ) (state : ℕ) where
  pub taken_patched : state ≡ stated.patched → taken ring state ≡ share ring
  taken_patched e = ap (λ (t : Bool). cond t (share ring) 0) (eq-eqb state stated.patched e)

  pub taken_none : (state ≡ stated.patched → ⊥) → taken ring state ≡ 0
  taken_none n = ap (λ (t : Bool). cond t (share ring) 0) (ne_eqb state stated.patched n)

  pub part_none : (set : List ℕ) → (state ≡ stated.patched → ⊥) → take (taken ring state) set ≡ []
  part_none set n = ap (λ (k : ℕ). take k set) (taken_none n)

right_empty : (grid : List ℤ) (input laid ring : List ℕ) (state : ℕ) (set : List ℕ) → 3 ≤ length ring
    → Right grid input laid ring state set → take (taken ring state) set ≡ [] → (state ≡ stated.long) ⊎ (state ≡ stated.left_open)
right_empty grid input laid ring state set n (patched e s c t a l) z =
    let f : length (take (taken ring state) set) ≡ share ring =
    ap (λ (k : ℕ). length (take k set)) (taken_patched ring state e) ∙ length-take-le (share ring) set t.there in
    let g : length (take (taken ring state) set) ≡ 0 = ap length z in
    absurd (omega arith)
right_empty grid input laid ring state set n (long e s) z = inl e
right_empty grid input laid ring state set n (open_left e s x) z = inr e

-- what a right loop takes is there
pub right_takes : (grid : List ℤ) (input laid ring : List ℕ) (state : ℕ) (set : List ℕ) → Right grid input laid ring state set → taken ring state ≤ length set
right_takes grid input laid ring state set (patched e s c t a n) = subst (λ (k : ℕ). k ≤ length set) (sym (taken_patched ring state e)) t.there
right_takes grid input laid ring state set (long e s) = let z : taken ring state ≡ 0 = taken_none ring state (λ f. omega arith) in omega arith
right_takes grid input laid ring state set (open_left e s n) = let z : taken ring state ≡ 0 = taken_none ring state (λ f. omega arith) in omega arith

pub right_fills : (grid : List ℤ) (input laid ring : List ℕ) (state : ℕ) (set : List ℕ) → Right grid input laid ring state set
    → FillsRing input laid ring (take (taken ring state) set)
right_fills grid input laid ring state set (patched e s c t a l) =
    subst (λ (k : ℕ). FillsRing input laid ring (take k set)) (sym (taken_patched ring state e))
    (cover c (length-take-le (share ring) set t.there) t.covers a)
right_fills grid input laid ring state set (long e s) = nothing (part_none ring state set (λ f. omega arith))
right_fills grid input laid ring state set (open_left e s n) = nothing (part_none ring state set (λ f. omega arith))

-- a rim takes nothing
pub takes_if : (grid : List ℤ) (input laid : List ℕ) (k : Bool) (ring : List ℕ) (state : ℕ) (set : List ℕ) → RightIf grid input laid k ring state set → taken ring state ≤ length set
takes_if grid input laid true ring state set w = subst (λ (s : ℕ). taken ring s ≤ length set) (sym w) zero-le
takes_if grid input laid false ring state set w = right_takes grid input laid ring state set w

pub right_fills_if : (grid : List ℤ) (input laid : List ℕ) (k : Bool) (ring : List ℕ) (state : ℕ) (set : List ℕ) → RightIf grid input laid k ring state set
    → FillsRing input laid ring (take (taken ring state) set)
right_fills_if grid input laid true ring state set e = nothing (part_none ring state set (λ f. omega arith))
right_fills_if grid input laid false ring state set r = right_fills grid input laid ring state set r

-- declared open, long or a rim
abbrev pub OpenState : ℕ → Type 0
OpenState s = (s ≡ stated.long) ⊎ ((s ≡ stated.left_open) ⊎ (s ≡ stated.rim))

right_empty_if : (grid : List ℤ) (input laid : List ℕ) (k : Bool) (ring : List ℕ) (state : ℕ) (set : List ℕ) → 3 ≤ length ring → RightIf grid input laid k ring state set
    → take (taken ring state) set ≡ [] → OpenState state
right_empty_if grid input laid true ring state set t e z = inr (inr e)
right_empty_if grid input laid false ring state set t r z = ⊎_elim (λ (x : state ≡ stated.long). inl x) (λ (x : state ≡ stated.left_open). inr (inl x)) (right_empty grid input laid ring state set t r z)

not_open_one : (s : ℕ) → OpenState s → s ≡ stated.patched → ⊥
not_open_one s (inl e) f = omega arith
not_open_one s (inr (inl e)) f = omega arith
not_open_one s (inr (inr e)) f = omega arith

-- ---- all loops

pub right_filled : (grid : List ℤ) (input laid : List ℕ) (rims : List Bool) (rings : List (List ℕ)) (states set : List ℕ)
    → AllRight grid input laid rims rings states set → Filled input laid rings (parts rings states set)
right_filled grid input laid [] [] [] set h = tt
right_filled grid input laid [] [] (s ∷ states) set h = absurd h
right_filled grid input laid [] (r ∷ rings) states set h = absurd h
right_filled grid input laid (k ∷ rims) [] states set h = absurd h
right_filled grid input laid (k ∷ rims) (r ∷ rings) [] set h = absurd h
right_filled grid input laid (k ∷ rims) (r ∷ rings) (s ∷ states) set h =
    let n = taken r s in
    (right_fills_if grid input laid k r s set h.0, right_filled grid input (laid ++ take n set) rims rings states (drop n set) h.1)

pub parts_length : (grid : List ℤ) (input laid : List ℕ) (rims : List Bool) (rings : List (List ℕ)) (states set : List ℕ)
    → AllRight grid input laid rims rings states set → length (parts rings states set) ≡ length rings
parts_length grid input laid [] [] [] set h = refl
parts_length grid input laid [] [] (s ∷ states) set h = absurd h
parts_length grid input laid [] (r ∷ rings) states set h = absurd h
parts_length grid input laid (k ∷ rims) [] states set h = absurd h
parts_length grid input laid (k ∷ rims) (r ∷ rings) [] set h = absurd h
parts_length grid input laid (k ∷ rims) (r ∷ rings) (s ∷ states) set h =
    let n = taken r s in
    ap suc (parts_length grid input (laid ++ take n set) rims rings states (drop n set) h.1)

pub parts_all : (grid : List ℤ) (input laid : List ℕ) (rims : List Bool) (rings : List (List ℕ)) (states set : List ℕ)
    → AllRight grid input laid rims rings states set → flatten (parts rings states set) ≡ set
unfolding flatten
parts_all grid input laid [] [] [] set h = sym h
parts_all grid input laid [] [] (s ∷ states) set h = absurd h
parts_all grid input laid [] (r ∷ rings) states set h = absurd h
parts_all grid input laid (k ∷ rims) [] states set h = absurd h
parts_all grid input laid (k ∷ rims) (r ∷ rings) [] set h = absurd h
parts_all grid input laid (k ∷ rims) (r ∷ rings) (s ∷ states) set h =
    let n = taken r s in
    ap (λ (l : List ℕ). take n set ++ l) (parts_all grid input (laid ++ take n set) rims rings states (drop n set) h.1)
    ∙ take-append-drop n set

pub part_empty : (grid : List ℤ) (input laid : List ℕ) (rims : List Bool) (rings : List (List ℕ)) (states set : List ℕ)
    → AllRight grid input laid rims rings states set → RingsApart rings → (l : ℕ) → l < length rings
    → get_or (parts rings states set) l [] ≡ [] → OpenState (get_or states l 0)
part_empty grid input laid [] [] [] set h a l s z = absurd (not-suc-le-zero s)
part_empty grid input laid [] [] (x ∷ states) set h a l s z = absurd h
part_empty grid input laid [] (r ∷ rings) states set h a l s z = absurd h
part_empty grid input laid (k ∷ rims) [] states set h a l s z = absurd h
part_empty grid input laid (k ∷ rims) (r ∷ rings) [] set h a l s z = absurd h
part_empty grid input laid (k ∷ rims) (r ∷ rings) (x ∷ states) set h a zero s z = right_empty_if grid input laid k r x set (a.three 0 s) h.0 z
part_empty grid input laid (k ∷ rims) (r ∷ rings) (x ∷ states) set h a (suc l) s z =
    let n = taken r x in
    part_empty grid input (laid ++ take n set) rims rings states (drop n set) h.1 (rings_rest r rings a) l (omega arith) z

-- the other way round
pub empty_part : (rings : List (List ℕ)) (states set : List ℕ) (l : ℕ) → OpenState (get_or states l 0)
    → get_or (parts rings states set) l [] ≡ []
empty_part [] states set l h = refl
empty_part (r ∷ rings) [] set l h = refl
empty_part (r ∷ rings) (x ∷ states) set zero h = part_none r x set (not_open_one x h)
empty_part (r ∷ rings) (x ∷ states) set (suc l) h = empty_part rings states (drop (taken r x) set) l h
