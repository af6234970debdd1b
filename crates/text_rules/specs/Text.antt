-- Texts by their lines: "Lines of key=value, each ended by one line feed". The sheet text and the patch-set text have two parts, each a
-- count and as many lines; and before the parts of a sheet text may stand a head.
use Rattle.std.specs.Prelude.{◌≡◌, ℕ, ◌≤◌, length}
use mathlib.Core.List.{List, [], ◌∷◌, ◌++◌, map, flatten}
use Rattle.text_digits.specs.Numeral.{decimal}

-- a kind of text: the lines of what it says, each with its line feed, and what can stand in it
pub record Format (S : Type 0) : Type 1 where
  pub lines : S → List (List ℕ)
  pub Says : S → Type 0

module _ {S : Type 0} (F : Format S) where
  abbrev pub text : S → List ℕ
  text s = flatten (F.lines s)

  pub record TextOf (bytes : List ℕ) (s : S) : Type 0 where
    pub says : F.Says s
    pub is : bytes ≡ text s

-- the line feed
abbrev pub feed : ℕ
feed = 10

-- a line of a key and a count; "Decimal numbers have no leading zeros"
unfoldable pub count : List ℕ → ℕ → List ℕ
count key n = key ++ (decimal n ++ (feed ∷ []))

-- every one of a list has a property
abbrev pub All : {A : Type 0} → (A → Type 0) → List A → Type 0
All P [] = Unit {0}
All P (x ∷ l) = P x × All P l

-- a part of a text: the key of its count, how high that may be, how a line is written, with its line feed, and what can stand in one
pub record Part (A : Type 0) : Type 1 where
  pub key : List ℕ
  pub most : ℕ
  pub show : A → List ℕ
  pub Valid : A → Type 0

-- what a text of two parts says
pub record Both (A B : Type 0) : Type 0 where
  pub firsts : List A
  pub seconds : List B

abbrev pub both : {A B : Type 0} → List A → List B → Both A B
both xs ys = record { firsts = xs; seconds = ys }

-- a count and as many lines, and then another count and as many lines
module _ {A B : Type 0} (P : Part A) (Q : Part B) where
  unfoldable pub both_lines : Both A B → List (List ℕ)
  both_lines s =
      count P.key (length s.firsts) ∷ (map P.show s.firsts ++ (count Q.key (length s.seconds) ∷ map Q.show s.seconds))

  pub record SaysBoth (s : Both A B) : Type 0 where
    pub first_few : length s.firsts ≤ P.most
    pub second_few : length s.seconds ≤ Q.most
    pub firsts_valid : All P.Valid s.firsts
    pub seconds_valid : All Q.Valid s.seconds

  abbrev pub parts : Format (Both A B)
  parts = record { lines = both_lines; Says = SaysBoth }

-- what a text says below a head
pub record Under (H S : Type 0) : Type 0 where
  pub head : H
  pub body : S

abbrev pub under : {H S : Type 0} → H → S → Under H S
under h s = record { head = h; body = s }

-- the head can stand there, and what is below it can
pub record SaysUnder {H S : Type 0} (Valid : H → Type 0) (F : Format S) (s : Under H S) : Type 0 where
  pub head_valid : Valid s.head
  pub body_says : F.Says s.body

-- the lines of a head, which may be none, before a text
abbrev pub headed : {H S : Type 0} → (H → Type 0) → (H → List (List ℕ)) → Format S → Format (Under H S)
headed Valid show F = record { lines = λ s. show s.head ++ F.lines s.body; Says = SaysUnder Valid F }
