-- That the first lines of some bytes are those of some text of two parts, said part by part.
use mathlib.Core.Path.{◌≡◌, refl, sym, ap, ◌∙◌}
use mathlib.Core.Logic.{◌⊎◌, inl, inr}
use mathlib.Core.List.{List, [], ◌∷◌, ◌++◌, map, flatten}
use Prim.Native.Nat.{ℕ, zero, suc, ◌+◌, ◌-◌, ◌<◌, ◌≤◌}
use native.Mathlib.Omega.{arith}
use lib.ListN.{length, take}
use lib.Seq.{length-take-le}
use Rattle.text_digits.proofs.Laws.Digit.{lt_or_ge}
use Rattle.text_rules.specs.Text.{count, Part, both, both_lines, parts}
use Rattle.text_rules.specs.Fault.{Starts}
use Rattle.text_rules.proofs.Laws.Lists.{all_take}
use Rattle.text_rules.proofs.Laws.Parts.{Begins}
use Rattle.text_rules.proofs.Laws.Fill.{fill, fill_length, fill_valid, fill_take}
use Rattle.text_rules.proofs.Laws.Lines.{flat_first, flat_second, lines_length, take_first, take_second}

module _ {A B : Type 0} (P : Part A) (Q : Part B) where
  -- the first k lines of the bytes are right
  pub data Right (bytes : List ℕ) (k : ℕ) : Type 0 where
    none : k ≡ 0 → Right bytes k
    first : (n : ℕ) (xs : List A) (rest : List ℕ) → Begins P bytes n xs rest → k ≡ suc (length xs) → Right bytes k
    second : (xs : List A) (s : List ℕ) → Begins P bytes (length xs) xs s → (n : ℕ) (ys : List B) (rest : List ℕ) → Begins Q s n ys rest → k ≡ suc (length xs + suc (length ys)) → Right bytes k

  -- a start of a text is right,
  pub starts_right : (bytes : List ℕ) (k : ℕ) → Starts (parts P Q) bytes k → Right bytes k
  starts_right bytes zero s = none refl
  starts_right bytes (suc j) s = go (lt_or_ge (length s.said.firsts) j)
    where
      go : (length s.said.firsts < j) ⊎ (j ≤ length s.said.firsts) → Right bytes (suc j)
      go (inr h) =
          let m : length (take j s.said.firsts) ≡ j = length-take-le j s.said.firsts h in
          first (length s.said.firsts) (take j s.said.firsts) s.rest
          (record {
            few = s.says.first_few;
            within = omega (arith, m);
            valid = all_take P.Valid j s.said.firsts s.says.firsts_valid;
            are = s.are ∙ ap (λ (r : List (List ℕ)). flatten r ++ s.rest) (take_first P Q s.said j h)
                ∙ flat_first (count P.key (length s.said.firsts)) (map P.show (take j s.said.firsts)) s.rest;
          })
          (ap suc (sym m))
      go (inl h) =
          let i : ℕ = j - suc (length s.said.firsts) in
          let d : suc j ≡ suc (length s.said.firsts + suc i) = omega arith in
          let g : i ≤ length s.said.seconds = omega (arith, s.has, lines_length P Q s.said) in
          let m : length (take i s.said.seconds) ≡ i = length-take-le i s.said.seconds g in
          second s.said.firsts (count Q.key (length s.said.seconds) ++ (flatten (map Q.show (take i s.said.seconds)) ++ s.rest))
          (record {
            few = s.says.first_few;
            within = omega arith;
            valid = s.says.firsts_valid;
            are = s.are ∙ ap (λ (n : ℕ). flatten (take n (both_lines P Q s.said)) ++ s.rest) d ∙ ap (λ (r : List (List ℕ)). flatten r ++ s.rest) (take_second P Q s.said i)
                ∙ flat_second (count P.key (length s.said.firsts)) (count Q.key (length s.said.seconds)) (map P.show s.said.firsts) (map Q.show (take i s.said.seconds)) s.rest;
          })
          (length s.said.seconds) (take i s.said.seconds) s.rest
          (record { few = s.says.second_few; within = omega (arith, m); valid = all_take Q.Valid i s.said.seconds s.says.seconds_valid; are = refl })
          (omega (arith, d, m))

  none_starts : (bytes : List ℕ) → Starts (parts P Q) bytes 0
  unfolding flatten
  none_starts bytes =
      record { said = both [] []; rest = bytes; says = record { first_few = omega arith; second_few = omega arith; firsts_valid = tt; seconds_valid = tt }; has = omega arith; are = refl }

  -- and what is right starts a text, if something can stand in each part: the lines that its count leaves open are filled with that
  module _ (x : A) (vx : P.Valid x) (y : B) (vy : Q.Valid y) where
    first_starts : (bytes : List ℕ) (n : ℕ) (xs : List A) (rest : List ℕ) → Begins P bytes n xs rest → Starts (parts P Q) bytes (suc (length xs))
    first_starts bytes n xs rest b =
        let e : length (fill x n xs) ≡ n = fill_length P x vx bytes n xs rest b in
        record {
          said = both (fill x n xs) [];
          rest = rest;
          says = record { first_few = omega (arith, e, b.few); second_few = omega arith; firsts_valid = fill_valid P x vx bytes n xs rest b; seconds_valid = tt };
          has = omega (arith, lines_length P Q (both (fill x n xs) []), e, b.within);
          are = b.are
              ∙ sym (flat_first (count P.key n) (map P.show xs) rest)
              ∙ ap (λ (l : List A). flatten (count P.key n ∷ map P.show l) ++ rest) (sym (fill_take P x vx bytes n xs rest b))
              ∙ ap (λ (m : ℕ). flatten (count P.key m ∷ map P.show (take (length xs) (fill x n xs))) ++ rest) (sym e)
              ∙ ap (λ (r : List (List ℕ)). flatten r ++ rest) (sym (take_first P Q (both (fill x n xs) []) (length xs) (omega (arith, e, b.within))));
        }

    second_starts : (bytes : List ℕ) (xs : List A) (s : List ℕ) → Begins P bytes (length xs) xs s → (n : ℕ) (ys : List B) (rest : List ℕ) → Begins Q s n ys rest
        → Starts (parts P Q) bytes (suc (length xs + suc (length ys)))
    second_starts bytes xs s a n ys rest b =
        let e : length (fill y n ys) ≡ n = fill_length Q y vy s n ys rest b in
        record {
          said = both xs (fill y n ys);
          rest = rest;
          says = record { first_few = a.few; second_few = omega (arith, e, b.few); firsts_valid = a.valid; seconds_valid = fill_valid Q y vy s n ys rest b };
          has = omega (arith, lines_length P Q (both xs (fill y n ys)), e, b.within);
          are = a.are
              ∙ ap (λ (r : List ℕ). count P.key (length xs) ++ (flatten (map P.show xs) ++ r)) b.are
              ∙ sym (flat_second (count P.key (length xs)) (count Q.key n) (map P.show xs) (map Q.show ys) rest)
              ∙ ap (λ (l : List B). flatten (count P.key (length xs) ∷ (map P.show xs ++ (count Q.key n ∷ map Q.show l))) ++ rest) (sym (fill_take Q y vy s n ys rest b))
              ∙ ap (λ (m : ℕ). flatten (count P.key (length xs) ∷ (map P.show xs ++ (count Q.key m ∷ map Q.show (take (length ys) (fill y n ys))))) ++ rest) (sym e)
              ∙ ap (λ (r : List (List ℕ)). flatten r ++ rest) (sym (take_second P Q (both xs (fill y n ys)) (length ys)));
        }

    pub right_starts : (bytes : List ℕ) (k : ℕ) → Right bytes k → Starts (parts P Q) bytes k
    right_starts bytes k (none e) = rw e (none_starts bytes)
    right_starts bytes k (first n xs rest b e) = rw e (first_starts bytes n xs rest b)
    right_starts bytes k (second xs s a n ys rest b e) = rw e (second_starts bytes xs s a n ys rest b)
