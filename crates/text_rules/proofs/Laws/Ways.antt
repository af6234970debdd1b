-- How the reading of a whole text can go, with what the bytes then are.
use mathlib.Core.Path.{◌≡◌, refl, ◌∙◌}
use mathlib.Core.List.{List, [], ◌∷◌}
use Prim.Native.Nat.{ℕ, ◌+◌}
use native.Mathlib.Omega.{arith}
use lib.ListN.{length}
use Rattle.text_digits.specs.Workings.Reading.{Read, Exact}
use Rattle.text_rules.specs.Text.{Part}
use Rattle.text_rules.specs.Workings.Parse.{Parsed, said, fault, ending, with_count, read_count, parse}
use Rattle.text_rules.proofs.Laws.Parts.{Begins, Reads, uncounted, cut, whole, reads}

pub said_fault : {A B : Type 0} {xs : List A} {ys : List B} {l : ℕ} → said xs ys ≡ fault l → ⊥
said_fault h = let z : ◌≡◌ {A = ℕ} 0 1 = cc in omega arith

pub fault_same : {A B : Type 0} {k l : ℕ} → ◌≡◌ {A = Parsed A B} (fault k) (fault l) → k ≡ l
fault_same e = cc

module _ {A B : Type 0} (P : Part A) (Q : Part B) (read_p : List ℕ → Read A) (read_q : List ℕ → Read B) where
  pub data Way (bytes : List ℕ) : Type 0 where
    -- no line is right
    at_once : parse P Q read_p read_q bytes ≡ fault 1 → Way bytes
    -- the first count is, and lines of the first part
    in_first : (n : ℕ) (xs : List A) (rest : List ℕ) → Begins P bytes n xs rest → (l : ℕ) → l ≡ length xs + 2 → parse P Q read_p read_q bytes ≡ fault l → Way bytes
    -- the first part is, the second count, and lines of the second part
    in_second : (xs : List A) (s : List ℕ) → Begins P bytes (length xs) xs s → (n : ℕ) (ys : List B) (rest : List ℕ) → Begins Q s n ys rest
        → (l : ℕ) → l ≡ length xs + length ys + 3 → parse P Q read_p read_q bytes ≡ fault l → Way bytes
    -- all is
    to_end : (xs : List A) (s : List ℕ) → Begins P bytes (length xs) xs s → (ys : List B) → Begins Q s (length ys) ys [] → parse P Q read_p read_q bytes ≡ said xs ys → Way bytes

  module _ (ep : Exact P.Valid P.show read_p) (eq : Exact Q.Valid Q.show read_q) where
    pub way : (bytes : List ℕ) → Way bytes
    unfolding parse
    way bytes = go (reads P read_p ep bytes)
      where
        end : (xs : List A) (s : List ℕ) → Begins P bytes (length xs) xs s → (ys : List B) (rest : List ℕ) → Begins Q s (length ys) ys rest
            → parse P Q read_p read_q bytes ≡ ending xs ys rest → Way bytes
        end xs s a ys [] b e = to_end xs s a ys b e
        end xs s a ys (x ∷ rest) b e = in_second xs s a (length ys) ys (x ∷ rest) b (length xs + length ys + 3) refl e

        second : (xs : List A) (s : List ℕ) → Begins P bytes (length xs) xs s → parse P Q read_p read_q bytes ≡ with_count read_q xs (read_count Q.key Q.most s)
            → Reads Q read_q s → Way bytes
        second xs s a e (uncounted c) = in_first (length xs) xs s a (length xs + 2) refl (e ∙ rw c)
        second xs s a e (cut n r ys rest c d b) = in_second xs s a n ys rest b (length xs + 3 + length ys) (omega arith) (e ∙ rw (c, d))
        second xs s a e (whole n r ys rest c d b) = end xs s a ys rest b (e ∙ rw (c, d))

        go : Reads P read_p bytes → Way bytes
        go (uncounted c) = at_once (rw c)
        go (cut n r xs rest c d b) = in_first n xs rest b (2 + length xs) (omega arith) (rw (c, d))
        go (whole n r xs rest c d b) = second xs rest b (rw (c, d)) (reads Q read_q eq rest)
