-- One part of a text: a count, and lines. That the bytes begin with some of its lines is one fact, which a reading gives and which
-- gives what a reading does.
use mathlib.Core.Path.{◌≡◌, refl, ap, ◌∙◌}
use mathlib.Core.List.{List, ◌++◌, map, flatten}
use Prim.Native.Nat.{ℕ, ◌≤◌}
use native.Mathlib.Omega.{arith}
use lib.ListN.{length}
use Rattle.text_digits.specs.Workings.Reading.{Read, wrong, got, Exact}
use Rattle.text_rules.specs.Text.{count, All, Part}
use Rattle.text_rules.specs.Workings.Parse.{stuck, all, rows, read_count}
use Rattle.text_rules.proofs.Laws.Counts.{count_exact}
use Rattle.text_rules.proofs.Laws.Rows.{reached, Lay, Ended, through, broken, ended, rows_full, rows_reach}

module _ {A : Type 0} (P : Part A) where
  -- the bytes are a line of the count n, lines that say xs, which are no more than n, and the rest
  pub record Begins (bytes : List ℕ) (n : ℕ) (xs : List A) (rest : List ℕ) : Type 0 where
    pub few : n ≤ P.most
    pub within : length xs ≤ n
    pub valid : All P.Valid xs
    pub are : bytes ≡ count P.key n ++ (flatten (map P.show xs) ++ rest)

  -- how a reading of the part can go
  pub data Reads (read : List ℕ → Read A) (bytes : List ℕ) : Type 0 where
    uncounted : read_count P.key P.most bytes ≡ wrong → Reads read bytes
    cut : (n : ℕ) (r : List ℕ) (xs : List A) (rest : List ℕ) → read_count P.key P.most bytes ≡ got n r → rows read n r ≡ stuck xs → Begins bytes n xs rest → Reads read bytes
    whole : (n : ℕ) (r : List ℕ) (xs : List A) (rest : List ℕ) → read_count P.key P.most bytes ≡ got n r → rows read n r ≡ all xs rest → Begins bytes (length xs) xs rest
        → Reads read bytes

  begun : (bytes : List ℕ) (n : ℕ) (r : List ℕ) (xs : List A) (rest : List ℕ) → read_count P.key P.most bytes ≡ got n r → length xs ≤ n → Lay P.Valid P.show r xs rest
      → Begins bytes n xs rest
  begun bytes n r xs rest h l k =
      let c = (count_exact P.key P.most).true_to bytes n r h in
      record { few = c.0; within = l; valid = k.valid; are = c.1 ∙ ap (λ (s : List ℕ). count P.key n ++ s) k.are }

module _ {A : Type 0} (P : Part A) (read : List ℕ → Read A) (ex : Exact P.Valid P.show read) where
  pub reads : (bytes : List ℕ) → Reads P read bytes
  reads bytes = go (read_count P.key P.most bytes) refl
    where
      next : (n : ℕ) (r : List ℕ) → read_count P.key P.most bytes ≡ got n r → Ended P.Valid P.show read n r → Reads P read bytes
      next n r e (broken xs rest h l k) = cut n r xs rest e h (begun P bytes n r xs rest e (omega arith) k)
      next n r e (through xs rest h l k) =
          whole n r xs rest e h (rw l (begun P bytes n r xs rest e (omega arith) k))

      go : (o : Read ℕ) → read_count P.key P.most bytes ≡ o → Reads P read bytes
      go wrong e = uncounted e
      go (got n r) e = next n r e (ended P.Valid P.show read ex n r)

  module _ (bytes : List ℕ) (n : ℕ) (xs : List A) (rest : List ℕ) (b : Begins P bytes n xs rest) where
    -- the count is read,
    pub begins_count : read_count P.key P.most bytes ≡ got n (flatten (map P.show xs) ++ rest)
    begins_count =
        ap (read_count P.key P.most) b.are ∙ (count_exact P.key P.most).finds n (flatten (map P.show xs) ++ rest) b.few

    -- then the lines that are there,
    pub begins_reach : length xs ≤ reached (rows read n (flatten (map P.show xs) ++ rest))
    begins_reach = rows_reach P.Valid P.show read ex n xs rest b.valid b.within

  -- and the whole part, if they are as many as the count
  pub begins_full : (bytes : List ℕ) (xs : List A) (rest : List ℕ) → Begins P bytes (length xs) xs rest → rows read (length xs) (flatten (map P.show xs) ++ rest) ≡ all xs rest
  begins_full bytes xs rest b = rows_full P.Valid P.show read ex xs rest b.valid
