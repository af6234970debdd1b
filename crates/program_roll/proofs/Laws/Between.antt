-- The lines of some loops, one after the other: of none, of one more, and of those from the start.
use mathlib.Core.Path.{◌≡◌, refl, sym, ap, ◌∙◌}
use mathlib.Core.List.{List, [], ◌∷◌, ◌++◌, flatten, append-nil, append_assoc}
use Prim.Native.Nat.{ℕ, zero, suc, ◌+◌, ◌<◌, ◌≤◌}
use native.Mathlib.Numerals.{add-one}
use native.Mathlib.Omega.{arith}
use lib.ListN.{length, get_or}
use Rattle.program_lines.specs.Listing.{Shown, loop_lines}
use Rattle.program_lines.specs.Workings.Telling.{nothing}
use Rattle.program_roll.specs.Sections.{between}

pub between_none : (k : ℕ) (loops : List Shown) → between k k loops ≡ []
unfolding flatten
between_none zero loops = refl
between_none (suc k) [] = refl
between_none (suc k) (s ∷ loops) = between_none k loops

one_more : (k n : ℕ) (loops : List Shown) → k ≤ n → n < length loops → between k (suc n) loops ≡ between k n loops ++ loop_lines (get_or loops n nothing)
unfolding flatten
one_more k n [] h l = absurd (omega arith)
one_more zero zero (s ∷ loops) h l = append-nil (loop_lines s)
one_more zero (suc n) (s ∷ loops) h l =
    ap (λ (r : List ℕ). loop_lines s ++ r) (one_more zero n loops (omega arith) (omega arith))
    ∙ sym (append_assoc (loop_lines s) (between zero n loops) (loop_lines (get_or loops n nothing)))
one_more (suc k) zero (s ∷ loops) h l = absurd (omega arith)
one_more (suc k) (suc n) (s ∷ loops) h l = one_more k n loops (omega arith) (omega arith)

pub between_more : (k n : ℕ) (loops : List Shown) → k ≤ n → n < length loops → between k (n + 1) loops ≡ between k n loops ++ loop_lines (get_or loops n nothing)
between_more k n loops h l = ap (λ (j : ℕ). between k j loops) (add-one n) ∙ one_more k n loops h l

pub between_joins : (k n : ℕ) (loops : List Shown) → k ≤ n → between 0 n loops ≡ between 0 k loops ++ between k n loops
unfolding flatten
between_joins zero n loops h = refl
between_joins (suc k) zero loops h = absurd (omega arith)
between_joins (suc k) (suc n) [] h = refl
between_joins (suc k) (suc n) (s ∷ loops) h =
    ap (λ (r : List ℕ). loop_lines s ++ r) (between_joins k n loops (omega arith)) ∙ sym (append_assoc (loop_lines s) (between 0 k loops) (between k n loops))
