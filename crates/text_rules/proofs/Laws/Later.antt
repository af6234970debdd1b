-- A fault that a reading finds is later than any lines that are right, and the lines before it are right.
use mathlib.Core.Path.{◌≡◌, refl, sym, ap, ◌∙◌}
use mathlib.Core.List.{List, [], ◌∷◌, ◌++◌, map, flatten}
use Prim.Native.Nat.{ℕ, suc, ◌+◌, ◌<◌, ◌≤◌}
use native.Mathlib.Omega.{arith}
use lib.ListN.{length}
use Rattle.text_digits.specs.Workings.Reading.{Read, wrong, got, Exact}
use Rattle.text_rules.specs.Text.{Part}
use Rattle.text_rules.specs.Workings.Parse.{Rows, stuck, all, rows, read_count, fault, with_seconds, with_count, with_firsts, from_count, parse}
use Rattle.text_rules.proofs.Laws.Rows.{reached}
use Rattle.text_rules.proofs.Laws.Parts.{Begins, begins_count, begins_reach, begins_full}
use Rattle.text_rules.proofs.Laws.Ways.{said_fault, fault_same, Way, at_once, in_first, in_second, to_end, way}
use Rattle.text_rules.proofs.Laws.Beginnings.{Right, none, first, second}

module _ {A B : Type 0} (P : Part A) (Q : Part B) (read_p : List ℕ → Read A) (read_q : List ℕ → Read B) where
  later_seconds : (xs : List A) (o : Rows B) (i l : ℕ) → i ≤ reached o → with_seconds xs o ≡ fault l → length xs + 3 + i ≤ l
  later_seconds xs (stuck m) i l h e = omega (arith, fault_same e)
  later_seconds xs (all ys []) i l h e = absurd (said_fault e)
  later_seconds xs (all ys (x ∷ v)) i l h e = omega (arith, fault_same e)

  later_count : (xs : List A) (o : Read ℕ) (l : ℕ) → with_count read_q xs o ≡ fault l → length xs + 2 ≤ l
  later_count xs wrong l e = omega (arith, fault_same e)
  later_count xs (got n u) l e = omega (arith, later_seconds xs (rows read_q n u) 0 l (omega arith) e)

  later_firsts : (o : Rows A) (j l : ℕ) → j ≤ reached o → with_firsts P Q read_p read_q o ≡ fault l → 2 + j ≤ l
  later_firsts (stuck m) j l h e = omega (arith, fault_same e)
  later_firsts (all xs s) j l h e = omega (arith, later_count xs (read_count Q.key Q.most s) l e)

  module _ (ep : Exact P.Valid P.show read_p) (eq : Exact Q.Valid Q.show read_q) where
    -- the reading, once the first count and once the second is read
    pub past_count : (bytes : List ℕ) (n : ℕ) (xs : List A) (rest : List ℕ) → Begins P bytes n xs rest
        → parse P Q read_p read_q bytes ≡ with_firsts P Q read_p read_q (rows read_p n (flatten (map P.show xs) ++ rest))
    unfolding parse
    past_count bytes n xs rest b = ap (from_count P Q read_p read_q) (begins_count P read_p ep bytes n xs rest b)

    pub past_first : (bytes : List ℕ) (xs : List A) (s : List ℕ) → Begins P bytes (length xs) xs s → (n : ℕ) (ys : List B) (rest : List ℕ) → Begins Q s n ys rest
        → parse P Q read_p read_q bytes ≡ with_seconds xs (rows read_q n (flatten (map Q.show ys) ++ rest))
    past_first bytes xs s a n ys rest b =
        past_count bytes (length xs) xs s a
        ∙ ap (with_firsts P Q read_p read_q) (begins_full P read_p ep bytes xs s a)
        ∙ ap (with_count read_q xs) (begins_count Q read_q eq s n ys rest b)

    pub later : (bytes : List ℕ) (k l : ℕ) → Right P Q bytes k → parse P Q read_p read_q bytes ≡ fault l → k < l
    later bytes k l (none z) e = omega (arith, some (way P Q read_p read_q ep eq bytes))
      where
        some : Way P Q read_p read_q bytes → 0 < l
        some (at_once h) = omega (arith, fault_same (sym h ∙ e))
        some (in_first n xs rest b m q h) = omega (arith, fault_same (sym h ∙ e))
        some (in_second xs s a n ys rest b m q h) = omega (arith, fault_same (sym h ∙ e))
        some (to_end xs s a ys b h) = absurd (said_fault (sym h ∙ e))
    later bytes k l (first n xs rest b z) e =
        omega (
          arith,
          later_firsts (rows read_p n (flatten (map P.show xs) ++ rest)) (length xs) l (begins_reach P read_p ep bytes n xs rest b)
              (sym (past_count bytes n xs rest b) ∙ e),
        )
    later bytes k l (second xs s a n ys rest b z) e =
        omega (
          arith,
          later_seconds xs (rows read_q n (flatten (map Q.show ys) ++ rest)) (length ys) l (begins_reach Q read_q eq s n ys rest b)
              (sym (past_first bytes xs s a n ys rest b) ∙ e),
        )

    pub before : (bytes : List ℕ) (l : ℕ) → parse P Q read_p read_q bytes ≡ fault l → (k : ℕ) × (l ≡ suc k) × Right P Q bytes k
    before bytes l e = go (way P Q read_p read_q ep eq bytes)
      where
        go : Way P Q read_p read_q bytes → (k : ℕ) × (l ≡ suc k) × Right P Q bytes k
        go (at_once h) = (0, omega (arith, fault_same (sym h ∙ e)), none refl)
        go (in_first n xs rest b m q h) = (suc (length xs), omega (arith, fault_same (sym h ∙ e)), first n xs rest b refl)
        go (in_second xs s a n ys rest b m q h) =
            (suc (length xs + suc (length ys)), omega (arith, fault_same (sym h ∙ e)), second xs s a n ys rest b refl)
        go (to_end xs s a ys b h) = absurd (said_fault (sym h ∙ e))
