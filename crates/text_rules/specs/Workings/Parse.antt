-- Reading a text line by line.
use Rattle.std.specs.Prelude.{List, [], ◌∷◌, ℕ, zero, suc, ◌+◌, length}
use Rattle.text_digits.specs.Workings.Reading.{Read, wrong, got, read_key, read_decimal}
use Rattle.text_rules.specs.Text.{feed, Part}

abbrev pub after : {A B : Type 0} → Read A → (A → List ℕ → Read B) → Read B
after wrong f = wrong
after (got a rest) f = f a rest

-- a key and a count
unfoldable pub read_count : List ℕ → ℕ → List ℕ → Read ℕ
read_count key most bytes = after (read_key key bytes) (λ u rest. read_decimal feed most rest)

-- n lines: all of them and the rest, or those before the first that is wrong
pub data Rows (A : Type 0) : Type 0 where
  stuck : List A → Rows A
  all : List A → List ℕ → Rows A

abbrev pub more : {A : Type 0} → A → Rows A → Rows A
more t (stuck l) = stuck (t ∷ l)
more t (all l rest) = all (t ∷ l) rest

abbrev pub row_then : {A : Type 0} → Read A → (List ℕ → Rows A) → Rows A
row_then wrong f = stuck []
row_then (got t rest) f = more t (f rest)

unfoldable pub rows : {A : Type 0} → (List ℕ → Read A) → ℕ → List ℕ → Rows A
rows read zero bytes = all [] bytes
rows read (suc n) bytes = row_then (read bytes) (rows read n)

-- lines without what they say: how many are right before a wrong one, or what is after them
pub data Outline : Type 0 where
  stops : ℕ → Outline
  leaves : List ℕ → Outline

abbrev pub outline : {A : Type 0} → Rows A → Outline
outline (stuck l) = stops (length l)
outline (all l rest) = leaves rest

-- what the lines that are right say
abbrev pub values : {A : Type 0} → Rows A → List A
values (stuck l) = l
values (all l rest) = l

-- what a whole text says, or the line of its fault
pub data Parsed (A B : Type 0) : Type 0 where
  said : List A → List B → Parsed A B
  fault : ℕ → Parsed A B

module _ {A B : Type 0} where
  abbrev pub ending : List A → List B → List ℕ → Parsed A B
  ending xs ys [] = said xs ys
  ending xs ys (b ∷ rest) = fault (length xs + length ys + 3)

  abbrev pub with_seconds : List A → Rows B → Parsed A B
  with_seconds xs (stuck l) = fault (length xs + 3 + length l)
  with_seconds xs (all ys rest) = ending xs ys rest

  abbrev pub with_count : (List ℕ → Read B) → List A → Read ℕ → Parsed A B
  with_count read xs wrong = fault (length xs + 2)
  with_count read xs (got n rest) = with_seconds xs (rows read n rest)

module _ {A B : Type 0} (P : Part A) (Q : Part B) (read_p : List ℕ → Read A) (read_q : List ℕ → Read B) where
  abbrev pub with_firsts : Rows A → Parsed A B
  with_firsts (stuck l) = fault (2 + length l)
  with_firsts (all xs rest) = with_count read_q xs (read_count Q.key Q.most rest)

  abbrev pub from_count : Read ℕ → Parsed A B
  from_count wrong = fault 1
  from_count (got n rest) = with_firsts (rows read_p n rest)

  unfoldable pub parse : List ℕ → Parsed A B
  parse bytes = from_count (read_count P.key P.most bytes)
