-- The rings stand one after the other: where the ring of a loop begins and ends.
use mathlib.Core.Path.{◌≡◌, refl, sym, ap, ap₂, ◌∙◌}
use mathlib.Core.List.{List, [], ◌∷◌, ◌++◌, flatten}
use Prim.Native.Nat.{ℕ, suc, ◌+◌, ◌-◌, ◌≤◌, ◌<◌}
use native.Mathlib.Nat.{add-zero, le_trans}
use native.Mathlib.Numerals.{add-one}
use native.Mathlib.Omega.{arith}
use lib.IntN.{ℤ}
use lib.ListN.{length, get_or, take, drop, length-append, length-map, take-append-drop, get_or-map}
use lib.Seq.{take-suc, drop-cons, drop-append-add, take-append_seam}
use Rattle.base_limits.specs.Limits as limits
use Rattle.surface_rules.proofs.Laws.Lists.{flatten_append}
use Rattle.loop_rules.proofs.Laws.Kept.{flatten_snoc}
use Rattle.fill_scratch.specs.Workings.Rings.{Loops, RingPlace}

-- behind the first l rings stands the next one
pub ring_next : (rs : List (List ℕ)) (l : ℕ) → l < length rs → flatten (take (l + 1) rs) ≡ flatten (take l rs) ++ get_or rs l []
ring_next rs l h = ap (λ (n : ℕ). flatten (take n rs)) (add-one l) ∙ ap flatten (take-suc rs l [] h) ∙ flatten_snoc (take l rs) (get_or rs l [])

module _ (grid : List ℤ) (input : List ℕ) (rs : List (List ℕ)) (rings lengths : List ℕ) (s : Loops grid input rs rings lengths) where
  pub as_many : length lengths ≡ length rs
  as_many = ap length s.lengths_are ∙ length-map rs length

  pub length_at : (l : ℕ) → l < length rs → get_or lengths l 0 ≡ length (get_or rs l [])
  length_at l h = ap (λ (x : List ℕ). get_or x l 0) s.lengths_are ∙ get_or-map length rs l []

  -- the rings from the first l on
  rest_of : (l : ℕ) → l ≤ length rs → rings ≡ flatten (take l rs) ++ flatten (drop l rs)
  rest_of l h = s.rings_are ∙ ap flatten (sym (take-append-drop l rs)) ∙ flatten_append (take l rs) (drop l rs)

  -- the ring of loop l stands behind those before it
  pub ring_at_lem : (l r : ℕ) → l < length rs → r ≡ length (flatten (take l rs)) → take (r + get_or lengths l 0 - r) (drop r rings) ≡ get_or rs l []
  unfolding flatten
  ring_at_lem l r h e =
      let a : drop r rings ≡ flatten (drop l rs) =
      ap (λ (x : List ℕ). drop r x) (rest_of l (omega arith)) ∙ ap (λ (n : ℕ). drop n (flatten (take l rs) ++ flatten (drop l rs))) (e ∙ sym (add-zero (length (flatten (take l rs))))) ∙ drop-append-add (flatten (take l rs)) (flatten (drop l rs)) 0 in
      let b : flatten (drop l rs) ≡ get_or rs l [] ++ flatten (drop (suc l) rs) = ap flatten (drop-cons rs l [] h) ∙ flatten_cons (get_or rs l []) (drop (suc l) rs) in
      let c : r + get_or lengths l 0 - r ≡ length (get_or rs l []) = let d : get_or lengths l 0 ≡ length (get_or rs l []) = length_at l h in omega arith in
      ap₂ (λ (n : ℕ) (x : List ℕ). take n x) c (a ∙ b) ∙ take-append_seam (get_or rs l []) (flatten (drop (suc l) rs))
    where
      flatten_cons : (x : List ℕ) (xs : List (List ℕ)) → flatten (x ∷ xs) ≡ x ++ flatten xs
      flatten_cons x xs = refl

  -- it ends within
  pub end_in : (l r : ℕ) → l < length rs → r ≡ length (flatten (take l rs)) → r + get_or lengths l 0 ≤ length rings
  end_in l r h e =
      let a : length rings ≡ length (flatten (take (l + 1) rs)) + length (flatten (drop (l + 1) rs)) =
      ap length (rest_of (l + 1) (omega arith)) ∙ length-append (flatten (take (l + 1) rs)) (flatten (drop (l + 1) rs)) in
      let b : length (flatten (take (l + 1) rs)) ≡ length (flatten (take l rs)) + length (get_or rs l []) =
      ap length (ring_next rs l h) ∙ length-append (flatten (take l rs)) (get_or rs l []) in
      let c : get_or lengths l 0 ≡ length (get_or rs l []) = length_at l h in
      omega arith

  -- they are no more than all
  pub read_few : (l : ℕ) → l < length rs → length (flatten (take l rs)) + length (get_or rs l []) ≤ length (flatten rs)
  read_few l h =
      let a : length (flatten rs) ≡ length (flatten (take (l + 1) rs)) + length (flatten (drop (l + 1) rs)) =
      ap length (sym s.rings_are ∙ rest_of (l + 1) (omega arith)) ∙ length-append (flatten (take (l + 1) rs)) (flatten (drop (l + 1) rs)) in
      let b : length (flatten (take (l + 1) rs)) ≡ length (flatten (take l rs)) + length (get_or rs l []) =
      ap length (ring_next rs l h) ∙ length-append (flatten (take l rs)) (get_or rs l []) in
      omega arith

  pub places_of : length input ≤ limits.corners → (l r : ℕ) → l < length lengths → r ≡ length (flatten (take l rs)) → RingPlace rings lengths l r
  places_of few l r h e =
      let a : length lengths ≡ length rs = as_many in
      let i : l < length rs = omega arith in
      let f : length rs ≤ limits.triangles = s.few_loops in
      let n : get_or lengths l 0 ≡ length (get_or rs l []) = length_at l i in
      let t : 3 ≤ length (get_or rs l []) = (s.each l i).three in
      record {
        ring_in = end_in l r i e;
        rings_few = le_trans s.few few;
        loop_in = omega arith;
        three = omega arith;
        part_long = ap length (ring_at_lem l r i e) ∙ sym n;
      }
