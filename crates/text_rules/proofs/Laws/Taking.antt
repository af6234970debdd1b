-- The reading of a text, line kind by line kind: where it stops, and what it gives.
use mathlib.Core.Path.{◌≡◌, refl, sym, ap, ◌∙◌}
use mathlib.Core.List.{List, [], ◌∷◌}
use Prim.Native.Nat.{ℕ, zero, suc, ◌+◌, ◌<◌, ◌≤◌}
use native.Mathlib.Omega.{arith}
use lib.ListN.{length}
use Rattle.text_digits.specs.Workings.Reading.{Read, wrong, got}
use Rattle.text_rules.specs.Text.{Part, parts}
use Rattle.text_rules.specs.Fault.{Fault}
use Rattle.text_rules.specs.Workings.Parse.{Rows, stuck, all, more, row_then, rows, stops, leaves, outline, values, read_count, said, fault, ending, with_seconds, with_count, with_firsts, from_count, parse}
use Rattle.text_rules.proofs.Laws.Lines.{lines_length}

stops_leaves : {i : ℕ} {r : List ℕ} → stops i ≡ leaves r → ⊥
stops_leaves h = let z : ◌≡◌ {A = ℕ} 0 1 = cc in omega arith

module _ {A : Type 0} where
  stuck_all : {l m : List A} {r : List ℕ} → stuck l ≡ all m r → ⊥
  stuck_all h = let z : ◌≡◌ {A = ℕ} 0 1 = cc in omega arith

  -- an outline, read back
  when_stops : (o : Rows A) (i : ℕ) → stops i ≡ outline o → (l : List A) × (o ≡ stuck l) × (i ≡ length l)
  when_stops (stuck l) i h = (l, refl, cc)
  when_stops (all l r) i h = absurd (stops_leaves h)

  when_leaves : (o : Rows A) (r : List ℕ) → leaves r ≡ outline o → o ≡ all (values o) r
  when_leaves (stuck l) r h = absurd (stops_leaves (sym h))
  when_leaves (all l s) r h = let e : r ≡ s = cc in ap (all l) (sym e)

  -- how many lines there are
  rows_all : (read : List ℕ → Read A) (n : ℕ) (bytes : List ℕ) (l : List A) (rest : List ℕ) → rows read n bytes ≡ all l rest → length l ≡ n
  unfolding rows
  rows_all read zero bytes l rest h = let e : [] ≡ l = cc in sym (ap length e)
  rows_all read (suc n) bytes l rest h = go (read bytes) h (λ b m r e. rows_all read n b m r e)
    where
      next : (t : A) (o : Rows A) → more t o ≡ all l rest → ((m : List A) (r : List ℕ) → o ≡ all m r → length m ≡ n) → length l ≡ suc n
      next t (stuck m) e k = absurd (stuck_all e)
      next t (all m r) e k = let f : t ∷ m ≡ l = cc in sym (ap length f) ∙ ap suc (k m r refl)

      go : (r : Read A) → row_then r (rows read n) ≡ all l rest → ((b : List ℕ) (m : List A) (r : List ℕ) → rows read n b ≡ all m r → length m ≡ n) → length l ≡ suc n
      go wrong e k = absurd (stuck_all e)
      go (got t b) e k = next t (rows read n b) e (k b)

  rows_stuck : (read : List ℕ → Read A) (n : ℕ) (bytes : List ℕ) (l : List A) → rows read n bytes ≡ stuck l → length l < n
  unfolding rows
  rows_stuck read zero bytes l h = absurd (stuck_all (sym h))
  rows_stuck read (suc n) bytes l h = go (read bytes) h (λ b m e. rows_stuck read n b m e)
    where
      next : (t : A) (o : Rows A) → more t o ≡ stuck l → ((m : List A) → o ≡ stuck m → length m < n) → length l < suc n
      next t (all m r) e k = absurd (stuck_all (sym e))
      next t (stuck m) e k = let f : t ∷ m ≡ l = cc in omega (arith, ap length f, k m refl)

      go : (r : Read A) → row_then r (rows read n) ≡ stuck l → ((b : List ℕ) (m : List A) → rows read n b ≡ stuck m → length m < n) → length l < suc n
      go wrong e k = let f : [] ≡ l = cc in omega (arith, ap length f)
      go (got t b) e k = next t (rows read n b) e (k b)

  pub stops_less : (read : List ℕ → Read A) (n : ℕ) (bytes : List ℕ) (i : ℕ) → stops i ≡ outline (rows read n bytes) → i < n
  stops_less read n bytes i h = let w = when_stops (rows read n bytes) i h in omega (arith, rows_stuck read n bytes w.0 w.1, w.2)

  pub leaves_length : (read : List ℕ → Read A) (n : ℕ) (bytes : List ℕ) (r : List ℕ) → leaves r ≡ outline (rows read n bytes) → length (values (rows read n bytes)) ≡ n
  leaves_length read n bytes r h = rows_all read n bytes (values (rows read n bytes)) r (when_leaves (rows read n bytes) r h)

-- the fault at each kind of line, and what a text without one says
module _ {A B : Type 0} (P : Part A) (Q : Part B) (read_p : List ℕ → Read A) (read_q : List ℕ → Read B) (bytes : List ℕ) where
  pub no_first : read_count P.key P.most bytes ≡ wrong → parse P Q read_p read_q bytes ≡ fault 1
  unfolding parse
  no_first h = rw h

  module _ (n : ℕ) (r : List ℕ) (p : read_count P.key P.most bytes ≡ got n r) where
    pub wrong_first : (i : ℕ) → stops i ≡ outline (rows read_p n r) → parse P Q read_p read_q bytes ≡ fault (2 + i)
    unfolding parse
    wrong_first i h = let w = when_stops (rows read_p n r) i h in rw (p, w.1, ← w.2)

    module _ (s : List ℕ) (q : leaves s ≡ outline (rows read_p n r)) where
      firsts : List A
      firsts = values (rows read_p n r)

      have : length firsts ≡ n
      unfolding firsts
      have = leaves_length read_p n r s q

      upto : parse P Q read_p read_q bytes ≡ with_count read_q firsts (read_count Q.key Q.most s)
      unfolding parse firsts
      upto = ap (from_count P Q read_p read_q) p ∙ ap (with_firsts P Q read_p read_q) (when_leaves (rows read_p n r) s q)

      pub no_second : read_count Q.key Q.most s ≡ wrong → parse P Q read_p read_q bytes ≡ fault (n + 2)
      no_second h = upto ∙ ap (with_count read_q firsts) h ∙ rw have

      module _ (m : ℕ) (u : List ℕ) (o : read_count Q.key Q.most s ≡ got m u) where
        pub wrong_second : (i : ℕ) → stops i ≡ outline (rows read_q m u) → parse P Q read_p read_q bytes ≡ fault (n + 3 + i)
        wrong_second i h =
            let w = when_stops (rows read_q m u) i h in
            upto ∙ ap (with_count read_q firsts) o ∙ ap (with_seconds firsts) w.1 ∙ rw (have, ← w.2)

        module _ (v : List ℕ) (e : leaves v ≡ outline (rows read_q m u)) where
          seconds : List B
          seconds = values (rows read_q m u)

          held : length seconds ≡ m
          unfolding seconds
          held = leaves_length read_q m u v e

          to_end : parse P Q read_p read_q bytes ≡ ending firsts seconds v
          unfolding seconds
          to_end = upto ∙ ap (with_count read_q firsts) o ∙ ap (with_seconds firsts) (when_leaves (rows read_q m u) v e)

          pub left_over : (x : ℕ) (l : List ℕ) → v ≡ x ∷ l → parse P Q read_p read_q bytes ≡ fault (n + m + 3)
          left_over x l h = to_end ∙ ap (ending firsts seconds) h ∙ rw (have, held)

          pub whole_text : v ≡ [] → parse P Q read_p read_q bytes ≡ said (values (rows read_p n r)) (values (rows read_q m u))
          unfolding firsts seconds
          whole_text h = to_end ∙ ap (ending firsts seconds) h

-- no text is longer than its counts allow, so no fault is later
pub fault_near : {A B : Type 0} (P : Part A) (Q : Part B) {bytes : List ℕ} {line : ℕ} → Fault (parts P Q) bytes line → line ≤ P.most + Q.most + 3
fault_near P Q f =
    omega (arith, f.next, f.right.has, lines_length P Q f.right.said, f.right.says.first_few, f.right.says.second_few)
