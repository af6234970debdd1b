-- Several lines are read as they are written: all of them, or those before the first that is wrong.
use mathlib.Core.Path.{◌≡◌, refl, sym, ap, ◌∙◌}
use mathlib.Core.List.{List, [], ◌∷◌, ◌++◌, map, flatten, append_assoc, append-nil}
use Prim.Native.Nat.{ℕ, zero, suc, ◌+◌, ◌-◌, ◌<◌, ◌≤◌}
use native.Mathlib.Nat.{suc-add, zero-add}
use native.Mathlib.Omega.{arith}
use lib.ListN.{length}
use Rattle.text_digits.specs.Workings.Reading.{Read, wrong, got, Exact}
use Rattle.text_rules.specs.Text.{All}
use Rattle.text_rules.specs.Workings.Parse.{Rows, stuck, all, more, rows}

module _ {A : Type 0} where
  -- lines that were read before others
  abbrev onto : List A → Rows A → Rows A
  onto [] o = o
  onto (t ∷ l) o = more t (onto l o)

  onto_all : (l m : List A) (rest : List ℕ) → onto l (all m rest) ≡ all (l ++ m) rest
  onto_all [] m rest = refl
  onto_all (t ∷ l) m rest = ap (more t) (onto_all l m rest)

  -- how many lines were right
  abbrev pub reached : Rows A → ℕ
  reached (stuck l) = length l
  reached (all l rest) = length l

  onto_reached : (l : List A) (o : Rows A) → length l ≤ reached (onto l o)
  onto_reached [] o = omega arith
  onto_reached (t ∷ l) o = go (onto l o) (onto_reached l o)
    where
      go : (p : Rows A) → length l ≤ reached p → suc (length l) ≤ reached (more t p)
      go (stuck m) h = omega arith
      go (all m r) h = omega arith

module _ {A : Type 0} (Valid : A → Type 0) (show : A → List ℕ) where
  -- the bytes are lines that say l, and the rest
  pub record Lay (bytes : List ℕ) (l : List A) (rest : List ℕ) : Type 0 where
    pub valid : All Valid l
    pub are : bytes ≡ flatten (map show l) ++ rest

  lay_none : (bytes : List ℕ) → Lay bytes [] bytes
  unfolding flatten
  lay_none bytes = record { valid = tt; are = refl }

  lay_more : (bytes b : List ℕ) (t : A) (l : List A) (rest : List ℕ) → Valid t × (bytes ≡ show t ++ b) → Lay b l rest → Lay bytes (t ∷ l) rest
  unfolding flatten
  lay_more bytes b t l rest e k =
      record {
        valid = (e.0, k.valid);
        are = e.1 ∙ ap (λ (r : List ℕ). show t ++ r) k.are ∙ sym (append_assoc (show t) (flatten (map show l)) rest);
      }

  -- how a reading of n lines can go
  pub data Ended (read : List ℕ → Read A) (n : ℕ) (bytes : List ℕ) : Type 0 where
    through : (l : List A) (rest : List ℕ) → rows read n bytes ≡ all l rest → length l ≡ n → Lay bytes l rest → Ended read n bytes
    broken : (l : List A) (rest : List ℕ) → rows read n bytes ≡ stuck l → length l < n → Lay bytes l rest → Ended read n bytes

module _ {A : Type 0} (Valid : A → Type 0) (show : A → List ℕ) (read : List ℕ → Read A) (ex : Exact Valid show read) where
  pub ended : (n : ℕ) (bytes : List ℕ) → Ended Valid show read n bytes
  unfolding rows
  ended zero bytes = through [] bytes refl refl (lay_none Valid show bytes)
  ended (suc n) bytes = go (read bytes) refl (λ b. ended n b)
    where
      next : (t : A) (b : List ℕ) → read bytes ≡ got t b → Ended Valid show read n b → Ended Valid show read (suc n) bytes
      next t b e (through l rest h k y) = through (t ∷ l) rest (rw (e, h)) (ap suc k) (lay_more Valid show bytes b t l rest (ex.true_to bytes t b e) y)
      next t b e (broken l rest h k y) = broken (t ∷ l) rest (rw (e, h)) (omega arith) (lay_more Valid show bytes b t l rest (ex.true_to bytes t b e) y)

      go : (r : Read A) → read bytes ≡ r → ((b : List ℕ) → Ended Valid show read n b) → Ended Valid show read (suc n) bytes
      go wrong e k = broken [] bytes (rw e) (omega arith) (lay_none Valid show bytes)
      go (got t b) e k = next t b e (k b)

  -- lines that are right are passed by
  rows_onto : (l : List A) (m : ℕ) (rest : List ℕ) → All Valid l → rows read (length l + m) (flatten (map show l) ++ rest) ≡ onto l (rows read m rest)
  unfolding rows flatten
  rows_onto [] m rest h = rw zero-add
  rows_onto (t ∷ l) m rest h =
      rw (suc-add (length l) m, append_assoc (show t) (flatten (map show l)) rest, ex.finds t (flatten (map show l) ++ rest) h.0)
      (ap (more t) (rows_onto l m rest h.1))

  -- as many lines as are to be read
  pub rows_full : (l : List A) (rest : List ℕ) → All Valid l → rows read (length l) (flatten (map show l) ++ rest) ≡ all l rest
  unfolding rows
  rows_full l rest h =
      let e : length l ≡ length l + 0 = omega arith in
      ap (λ (n : ℕ). rows read n (flatten (map show l) ++ rest)) e
      ∙ rows_onto l 0 rest h
      ∙ onto_all l [] rest
      ∙ ap (λ (k : List A). all k rest) (append-nil l)

  -- at most as many
  pub rows_reach : (n : ℕ) (l : List A) (rest : List ℕ) → All Valid l → length l ≤ n → length l ≤ reached (rows read n (flatten (map show l) ++ rest))
  rows_reach n l rest h b =
      let e : n ≡ length l + (n - length l) = omega arith in
      let f : rows read n (flatten (map show l) ++ rest) ≡ onto l (rows read (n - length l) rest)
      = ap (λ (k : ℕ). rows read k (flatten (map show l) ++ rest)) e ∙ rows_onto l (n - length l) rest h in
      omega (arith, ap reached f, onto_reached l (rows read (n - length l) rest))
