-- The lines of a text of two parts, cut after some of them, and their bytes.
use mathlib.Core.Path.{◌≡◌, sym, ap, ◌∙◌}
use mathlib.Core.List.{List, [], ◌∷◌, ◌++◌, map, flatten, append_assoc, append-nil}
use Prim.Native.Nat.{ℕ, suc, ◌+◌, ◌≤◌}
use native.Mathlib.Omega.{arith}
use lib.ListN.{length, take, length-append, length-map}
use lib.Seq.{take-append-le, take-append-add}
use Rattle.surface_rules.proofs.Laws.Lists.{flatten_append}
use Rattle.text_rules.specs.Text.{count, Part, Both, both_lines, parts, text}
use Rattle.text_rules.proofs.Laws.Lists.{map_take}

-- the bytes of a count and lines, and of two counts with lines
pub flat_first : (c : List ℕ) (l : List (List ℕ)) (rest : List ℕ) → flatten (c ∷ l) ++ rest ≡ c ++ (flatten l ++ rest)
unfolding flatten
flat_first c l rest = append_assoc c (flatten l) rest

pub flat_second : (c d : List ℕ) (k l : List (List ℕ)) (rest : List ℕ) → flatten (c ∷ (k ++ (d ∷ l))) ++ rest ≡ c ++ (flatten k ++ (d ++ (flatten l ++ rest)))
flat_second c d k l rest =
    flat_first c (k ++ (d ∷ l)) rest
    ∙ ap (λ (r : List ℕ). c ++ (r ++ rest)) (flatten_append k (d ∷ l))
    ∙ ap (λ (r : List ℕ). c ++ r) (append_assoc (flatten k) (flatten (d ∷ l)) rest)
    ∙ ap (λ (r : List ℕ). c ++ (flatten k ++ r)) (flat_first d l rest)

module _ {A B : Type 0} (P : Part A) (Q : Part B) where
  pub lines_length : (s : Both A B) → length (both_lines P Q s) ≡ suc (length s.firsts + suc (length s.seconds))
  unfolding both_lines
  lines_length s =
      ap suc (length-append (map P.show s.firsts) (count Q.key (length s.seconds) ∷ map Q.show s.seconds) ∙ rw (length-map s.firsts P.show, length-map s.seconds Q.show))

  -- the lines of a text up to some of the first part, and up to some of the second
  pub take_first : (s : Both A B) (j : ℕ) → j ≤ length s.firsts → take (suc j) (both_lines P Q s) ≡ count P.key (length s.firsts) ∷ map P.show (take j s.firsts)
  unfolding both_lines
  take_first s j h =
      let xs : List A = s.firsts in
      ap (λ (r : List (List ℕ)). count P.key (length xs) ∷ r)
      (take-append-le j (map P.show xs) (count Q.key (length s.seconds) ∷ map Q.show s.seconds) (omega (arith, length-map xs P.show)) ∙ map_take P.show j xs)

  pub take_second : (s : Both A B) (i : ℕ)
      → take (suc (length s.firsts + suc i)) (both_lines P Q s)
      ≡ count P.key (length s.firsts) ∷ (map P.show s.firsts ++ (count Q.key (length s.seconds) ∷ map Q.show (take i s.seconds)))
  unfolding both_lines
  take_second s i =
      let xs : List A = s.firsts in
      let ys : List B = s.seconds in
      ap (λ (r : List (List ℕ)). count P.key (length xs) ∷ r)
      (ap (λ (n : ℕ). take (n + suc i) (map P.show xs ++ (count Q.key (length ys) ∷ map Q.show ys))) (sym (length-map xs P.show))
      ∙ take-append-add (map P.show xs) (count Q.key (length ys) ∷ map Q.show ys) (suc i)
      ∙ ap (λ (r : List (List ℕ)). map P.show xs ++ (count Q.key (length ys) ∷ r)) (map_take Q.show i ys))

  -- the bytes of all lines
  pub text_flat : (s : Both A B)
      → text (parts P Q) s
      ≡ count P.key (length s.firsts) ++ (flatten (map P.show s.firsts) ++ (count Q.key (length s.seconds) ++ (flatten (map Q.show s.seconds) ++ [])))
  unfolding both_lines
  text_flat s =
      sym (append-nil (text (parts P Q) s))
      ∙ flat_second (count P.key (length s.firsts)) (count Q.key (length s.seconds)) (map P.show s.firsts) (map Q.show s.seconds) []
