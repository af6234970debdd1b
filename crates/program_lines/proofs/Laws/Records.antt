-- Records that lie one after the other: each is found by its number.
use mathlib.Core.Path.{◌≡◌, refl, ap, ◌∙◌}
use mathlib.Core.List.{List, [], ◌∷◌, ◌++◌, map, flatten}
use Prim.Native.Nat.{ℕ, zero, suc, ◌+◌, ◌*◌, ◌<◌}
use native.Mathlib.Omega.{arith}
use lib.ListN.{length, get_or, length-append, get_or-append}
use lib.Seq.{get_or-append-add}
use Rattle.patch_records.specs.declared.Record.{Record}
use Rattle.patch_records.specs.Records.{numbers, record_in}
use Rattle.patch_records.proofs.Laws.Reading.{record_there}

module _ {A : Type 0} (f : A → Record) (d : A) where
  -- the numbers of all
  abbrev all : List A → List ℕ
  all xs = flatten (map (λ (x : A). numbers (f x)) xs)

  pub records_length : (xs : List A) → length (all xs) ≡ 7 * length xs
  unfolding flatten
  records_length [] = refl
  records_length (x ∷ xs) = omega (arith, length-append (numbers (f x)) (all xs), records_length xs)

  number_is : (xs : List A) (l i : ℕ) → l < length xs → i < 7 → get_or (all xs) (7 * l + i) 0 ≡ get_or (numbers (f (get_or xs l d))) i 0
  unfolding flatten
  number_is [] l i h k = absurd (omega arith)
  number_is (x ∷ xs) zero i h k =
      let e : 7 * 0 + i ≡ i = omega arith in
      ap (λ (n : ℕ). get_or (numbers (f x) ++ all xs) n 0) e ∙ get_or-append (numbers (f x)) (all xs) 0 i k
  number_is (x ∷ xs) (suc l) i h k =
      let e : 7 * suc l + i ≡ 7 + (7 * l + i) = omega arith in
      ap (λ (n : ℕ). get_or (numbers (f x) ++ all xs) n 0) e ∙ get_or-append-add (numbers (f x)) (all xs) (7 * l + i) 0 ∙ number_is xs l i (omega arith) k

  -- what stands there
  pub record_is : (xs : List A) (l : ℕ) → l < length xs → record_in (all xs) l ≡ f (get_or xs l d)
  record_is xs l h =
      let long = records_length xs in
      record_there (all xs) l (omega arith)
      ∙ (λ t. record {
        length = (ap (λ (i : ℕ). get_or (all xs) i 0) (let z : 7 * l ≡ 7 * l + 0 = omega arith in z) ∙ number_is xs l 0 h (omega arith)) t;
        state = number_is xs l 1 h (omega arith) t;
        weight = number_is xs l 2 h (omega arith) t;
        count = number_is xs l 3 h (omega arith) t;
        first = number_is xs l 4 h (omega arith) t;
        piece = number_is xs l 5 h (omega arith) t;
        run = number_is xs l 6 h (omega arith) t;
      })
