-- Lists that lie one after the other: where each begins, and what stands there.
use mathlib.Core.Path.{◌≡◌, refl, ap, ◌∙◌}
use mathlib.Core.List.{List, [], ◌∷◌, ◌++◌, map, flatten}
use Prim.Native.Nat.{ℕ, zero, suc, ◌+◌, ◌<◌, ◌≤◌}
use native.Mathlib.Numerals.{add-one}
use native.Mathlib.Omega.{arith}
use lib.ListN.{length, take, drop, get_or, length-append}
use lib.Seq.{drop-append-add, take-append_seam}

module _ {A B : Type 0} (f : A → List B) (d : A) where
  part : (xs : List A) (l : ℕ) → l < length xs
      → (rest : List B) × (drop (length (flatten (map f (take l xs)))) (flatten (map f xs)) ≡ f (get_or xs l d) ++ rest)
  unfolding flatten
  part [] l h = absurd (omega arith)
  part (x ∷ xs) zero h = (flatten (map f xs), refl)
  part (x ∷ xs) (suc l) h =
      let r = part xs l (omega arith) in
      (r.0, ap (λ (n : ℕ). drop n (f x ++ flatten (map f xs))) (length-append (f x) (flatten (map f (take l xs)))) ∙ drop-append-add (f x) (flatten (map f xs)) (length (flatten (map f (take l xs)))) ∙ r.1)

  -- what stands there
  pub part_is : (xs : List A) (l : ℕ) → l < length xs → take (length (f (get_or xs l d))) (drop (length (flatten (map f (take l xs)))) (flatten (map f xs))) ≡ f (get_or xs l d)
  part_is xs l h = let r = part xs l h in ap (take (length (f (get_or xs l d)))) r.1 ∙ take-append_seam (f (get_or xs l d)) r.0

  -- it lies within
  pub part_within : (xs : List A) (l : ℕ) → l < length xs → length (flatten (map f (take l xs))) + length (f (get_or xs l d)) ≤ length (flatten (map f xs))
  unfolding flatten
  part_within [] l h = absurd (omega arith)
  part_within (x ∷ xs) zero h = omega (arith, length-append (f x) (flatten (map f xs)))
  part_within (x ∷ xs) (suc l) h =
      omega (arith, part_within xs l (omega arith), length-append (f x) (flatten (map f xs)), length-append (f x) (flatten (map f (take l xs))))

  -- the next begins where it ends
  part_after : (xs : List A) (l : ℕ) → l < length xs → length (flatten (map f (take (suc l) xs))) ≡ length (flatten (map f (take l xs))) + length (f (get_or xs l d))
  unfolding flatten
  part_after [] l h = absurd (omega arith)
  part_after (x ∷ xs) zero h = omega (arith, length-append (f x) [])
  part_after (x ∷ xs) (suc l) h =
      omega (arith, part_after xs l (omega arith), length-append (f x) (flatten (map f (take (suc l) xs))), length-append (f x) (flatten (map f (take l xs))))

  pub part_next : (xs : List A) (l : ℕ) → l < length xs → length (flatten (map f (take (l + 1) xs))) ≡ length (flatten (map f (take l xs))) + length (f (get_or xs l d))
  part_next xs l h = ap (λ (n : ℕ). length (flatten (map f (take n xs)))) (add-one l) ∙ part_after xs l h
