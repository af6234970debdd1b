-- One loop more: its ring stands behind those that were read, and what it leaves behind what they left.
use mathlib.Core.Path.{◌≡◌, refl, sym, ap, ◌∙◌, subst}
use mathlib.Core.Bool.{Bool, true, false}
use mathlib.Core.List.{List, [], ◌∷◌, ◌++◌, flatten}
use Prim.Native.Nat.{ℕ, ◌+◌, ◌-◌, ◌*◌, ◌≤◌, ◌<◌}
use native.Mathlib.Nat.{le_trans}
use native.Mathlib.Numerals.{add-one}
use native.Mathlib.Omega.{arith}
use lib.IntN.{ℤ}
use lib.ListN.{length, get_or, take, set, length-append}
use lib.Seq.{take-suc, take_all, length-take-le}
use lib.Dec.{eqb}
use borrow.Author.Tests.{eq-eqb, ne_eqb}
use Rattle.surface_rules.specs.Buffers.{over, laid}
use Rattle.surface_rules.proofs.Laws.Over.{over_none, over_snoc, over_long, behind_at}
use Rattle.surface_rules.proofs.Laws.Laid.{laid_over}
use Rattle.fill_fates.specs.Fates.{Fate, rim, state_of, weighs, lays, Meets, Becomes}
use Rattle.fill_fates.specs.Course.{Course, states_of, weights_of, laid_by}
use Rattle.fill_fates.proofs.Laws.Grows.{course_length, course_more, laid_more, weights_more, states_more}
use Rattle.fill_fates.proofs.Laws.Lengths.{states_length, weights_length, laid_length}
use Rattle.fill_scratch.specs.Workings.Rings.{Loops, rim_mark}
use Rattle.fill_scratch.proofs.Laws.Reading.{ring_next, read_few}
use Rattle.patch_all.specs.Workings.Courses.{Docket, Lent, Ran, RanAll}

module _ {grid : List ℤ} {input : List ℕ} {rims : List Bool} {rs : List (List ℕ)} {rings lengths : List ℕ}
    (s : Loops grid input rs rings lengths) {c₀ : Docket} (lent : Lent rims rs c₀) where
  pub ran_begins : Ran grid input rims rs c₀ 0 0 0 c₀
  unfolding flatten
  ran_begins = record {
    most = omega arith;
    fates = [];
    course = tt;
    read = refl;
    count = refl;
    states_are = sym (over_none c₀.states);
    weights_are = sym (over_none c₀.weights);
    patches_are = sym (over_none c₀.patches);
  }

  module _ {l r p : ℕ} {c : Docket} (h : l < length rs) (g : Ran grid input rims rs c₀ l r p c) where
    -- the next loop's ring, and what is laid before it
    abbrev ring : List ℕ
    ring = get_or rs l []

    abbrev before : List ℕ
    before = laid_by (take l rs) g.fates

    few : length (take l rs) ≡ l
    few = length-take-le l rs (omega arith)

    fated : length g.fates ≡ length (take l rs)
    fated = course_length grid input [] (take l rims) (take l rs) g.fates g.course

    pub at_states : l ≡ length (states_of g.fates)
    at_states = sym (states_length g.fates ∙ fated ∙ few)

    pub at_weights : l ≡ length (weights_of grid (take l rs) g.fates)
    at_weights = sym (weights_length grid (take l rs) g.fates fated ∙ fated ∙ few)

    -- the states from the next loop on are as they were
    pub state_kept : get_or c.states l 0 ≡ get_or c₀.states l 0
    state_kept = ap (λ (x : List ℕ). get_or x l 0) g.states_are ∙ behind_at (states_of g.fates) c₀.states l 0 at_states

    -- so the mark of the next loop tells whether it is a rim
    mark_here : (b : Bool) → eqb (get_or c₀.states l 0) rim_mark ≡ b → get_or rims l false ≡ b
    mark_here b e = sym (lent.marked.told l (let a = lent.rims_many in omega arith)) ∙ e

    pub becomes_rim : get_or c.states l 0 ≡ rim_mark → Becomes grid input before (get_or rims l false) ring rim
    becomes_rim e =
        subst (λ (k : Bool). Becomes grid input before k ring rim) (sym (mark_here true (eq-eqb (get_or c₀.states l 0) rim_mark (sym state_kept ∙ e)))) refl

    pub becomes_other : (get_or c.states l 0 ≡ rim_mark → ⊥) → (fate : Fate) → Meets grid input before ring fate
        → Becomes grid input before (get_or rims l false) ring fate
    becomes_other e fate m =
        subst (λ (k : Bool). Becomes grid input before k ring fate) (sym (mark_here false (ne_eqb (get_or c₀.states l 0) rim_mark (λ q. e (state_kept ∙ q))))) m

    -- the next loop's patch has room
    pub patches_in : p + 3 * (length ring - 2) ≤ length c.patches
    patches_in =
        let a : 3 * length (flatten rs) ≤ length c₀.patches = lent.patches_room in
        let d : p ≡ length before = g.count in
        let e : length before ≤ 3 * length (flatten (take l rs)) = laid_length grid input [] (take l rims) (take l rs) g.fates g.course in
        let f : length (flatten (take l rs)) + length ring ≤ length (flatten rs) = read_few grid input rs rings lengths s l h in
        let b : length c.patches ≡ length c₀.patches = ap length g.patches_are ∙ over_long before c₀.patches (omega arith) in
        omega arith

    module _ (fate : Fate) where
      pub next_take : take (l + 1) rs ≡ take l rs ++ (ring ∷ [])
      next_take = ap (λ (n : ℕ). take n rs) (add-one l) ∙ take-suc rs l [] h

      pub next_rims : take (l + 1) rims ≡ take l rims ++ (get_or rims l false ∷ [])
      next_rims = ap (λ (n : ℕ). take n rims) (add-one l) ∙ take-suc rims l false (let a = lent.rims_many in omega arith)

      -- what is laid once the next loop met its fate
      pub laid_next : laid_by (take (l + 1) rs) (g.fates ++ (fate ∷ [])) ≡ before ++ lays ring fate
      laid_next = ap (λ (x : List (List ℕ)). laid_by x (g.fates ++ (fate ∷ []))) next_take ∙ laid_more (take l rs) g.fates ring fate fated

      pub weights_next : weights_of grid (take (l + 1) rs) (g.fates ++ (fate ∷ [])) ≡ weights_of grid (take l rs) g.fates ++ (weighs grid ring fate ∷ [])
      weights_next = ap (λ (x : List (List ℕ)). weights_of grid x (g.fates ++ (fate ∷ []))) next_take ∙ weights_more grid (take l rs) g.fates ring fate fated

      unfoldable pub ran_more : Becomes grid input before (get_or rims l false) ring fate → {r' p' : ℕ} {c' : Docket}
          → r' ≡ r + length ring → p' ≡ p + length (lays ring fate) → c'.states ≡ set c.states l (state_of fate)
          → c'.weights ≡ set c.weights l (weighs grid ring fate) → c'.patches ≡ laid p (lays ring fate) c.patches → Ran grid input rims rs c₀ (l + 1) r' p' c'
      ran_more m er ep es ew eq = record {
        most = omega arith;
        fates = g.fates ++ (fate ∷ []);
        course =
            subst (λ (y : List Bool). Course grid input [] y (take (l + 1) rs) (g.fates ++ (fate ∷ []))) (sym next_rims)
            (subst (λ (x : List (List ℕ)). Course grid input [] (take l rims ++ (get_or rims l false ∷ [])) x (g.fates ++ (fate ∷ []))) (sym next_take)
            (course_more grid input [] (take l rims) (take l rs) g.fates (get_or rims l false) ring fate g.course m));
        read = er ∙ ap (λ (n : ℕ). n + length ring) g.read ∙ sym (ap length (ring_next rs l h) ∙ length-append (flatten (take l rs)) ring);
        count = ep ∙ ap (λ (n : ℕ). n + length (lays ring fate)) g.count ∙ sym (ap length laid_next ∙ length-append before (lays ring fate));
        states_are =
            es
            ∙ ap (λ (x : List ℕ). set x l (state_of fate)) g.states_are
            ∙ over_snoc (states_of g.fates) c₀.states (state_of fate) 0 l at_states (le_trans h lent.states_room)
            ∙ ap (λ (x : List ℕ). over x c₀.states) (sym (states_more g.fates fate));
        weights_are =
            ew
            ∙ ap (λ (x : List ℕ). set x l (weighs grid ring fate)) g.weights_are
            ∙ over_snoc (weights_of grid (take l rs) g.fates) c₀.weights (weighs grid ring fate) 0 l at_weights (le_trans h lent.weights_room)
            ∙ ap (λ (x : List ℕ). over x c₀.weights) (sym weights_next);
        patches_are =
            eq
            ∙ ap (laid p (lays ring fate)) g.patches_are
            ∙ laid_over before (lays ring fate) c₀.patches p g.count
            ∙ ap (λ (x : List ℕ). over x c₀.patches) (sym laid_next);
      }

  pub ran_all : {l r p : ℕ} {c : Docket} → length rs ≤ l → Ran grid input rims rs c₀ l r p c → RanAll grid input rims rs c₀ p c
  ran_all {l} h g =
      let e : take l rs ≡ rs = take_all l rs h in
      let f : take l rims ≡ rims = take_all l rims (let a = lent.rims_many in omega arith) in
      record {
        fates = g.fates;
        course =
            subst (λ (y : List Bool). Course grid input [] y rs g.fates) f
            (subst (λ (x : List (List ℕ)). Course grid input [] (take l rims) x g.fates) e g.course);
        count = g.count ∙ ap (λ (x : List (List ℕ)). length (laid_by x g.fates)) e;
        states_are = g.states_are;
        weights_are = g.weights_are ∙ ap (λ (x : List (List ℕ)). over (weights_of grid x g.fates) c₀.weights) e;
        patches_are = g.patches_are ∙ ap (λ (x : List (List ℕ)). over (laid_by x g.fates) c₀.patches) e;
      }
