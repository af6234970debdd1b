-- Reading at the front of some bytes, and when it reads exactly what a way of writing writes.
use Rattle.std.specs.Prelude.{◌≡◌, cond, ◌&&◌, List, [], ◌∷◌, ◌++◌, ℕ, zero, suc, ◌+◌, ◌-◌, ◌*◌, ◌≤◌, ltb, leb, eqb, drop, Option, Some, None}
use Rattle.text_digits.specs.Numeral.{size}

-- a value and the bytes after it, or nothing
pub data Read (A : Type 0) : Type 0 where
  wrong : Read A
  got : A → List ℕ → Read A

-- read finds every valid value that is written at the front, and nothing else
pub record Exact {A : Type 0} (Valid : A → Type 0) (show : A → List ℕ) (read : List ℕ → Read A) : Type 0 where
  pub finds : (a : A) (rest : List ℕ) → Valid a → read (show a ++ rest) ≡ got a rest
  pub true_to : (bytes : List ℕ) (a : A) (rest : List ℕ) → read bytes ≡ got a rest → Valid a × (bytes ≡ show a ++ rest)

-- the digit that a byte stands for, 16 where it stands for none
abbrev pub value_of : ℕ → ℕ
value_of b = cond (leb 48 b && leb b 57) (b - 48) (cond (leb 97 b && leb b 102) (b - 87) 16)

-- k more digits to the base b, after v
unfoldable pub digits : ℕ → ℕ → ℕ → List ℕ → Read ℕ
digits b zero v bytes = got v bytes
digits b (suc k) v [] = wrong
digits b (suc k) v (x ∷ bytes) = cond (ltb (value_of x) b) (digits b k (v * b + value_of x) bytes) wrong

-- the byte e, after v
unfoldable pub ending : ℕ → ℕ → List ℕ → Read ℕ
ending e v [] = wrong
ending e v (x ∷ bytes) = cond (eqb x e) (got v bytes) wrong

abbrev pub then : Read ℕ → (ℕ → List ℕ → Read ℕ) → Read ℕ
then wrong f = wrong
then (got v bytes) f = f v bytes

-- a word of eight digits, ended by the byte e
unfoldable pub read_hex : ℕ → List ℕ → Read ℕ
read_hex e bytes = then (digits 16 8 0 bytes) (ending e)

-- decimal digits up to the byte e, after k digits with the value v, as long as the value is at most the limit; there have to be
-- as many digits as the value needs
unfoldable pub until : ℕ → ℕ → ℕ → ℕ → List ℕ → Read ℕ
until e limit v k [] = wrong
until e limit v k (x ∷ bytes) =
    cond (eqb x e) (cond (eqb k (size v)) (got v bytes) wrong)
    (cond (ltb (value_of x) 10) (cond (leb (v * 10 + value_of x) limit) (until e limit (v * 10 + value_of x) (k + 1) bytes) wrong) wrong)

unfoldable pub read_decimal : ℕ → ℕ → List ℕ → Read ℕ
read_decimal e limit bytes = until e limit 0 0 bytes

-- what an answer, a number and the place after it, says of the text
abbrev pub seen : List ℕ → Option (ℕ × ℕ) → Read ℕ
seen text (Some (v, next)) = got v (drop next text)
seen text None = wrong

-- the bytes of key
unfoldable pub read_key : List ℕ → List ℕ → Read Unit
read_key [] bytes = got tt bytes
read_key (k ∷ key) [] = wrong
read_key (k ∷ key) (x ∷ bytes) = cond (eqb x k) (read_key key bytes) wrong

-- what the place after a key says of the text
abbrev pub met : List ℕ → Option ℕ → Read Unit
met text (Some next) = got tt (drop next text)
met text None = wrong

-- the place after a number that was read is at most n
abbrev pub UpTo : ℕ → Option (ℕ × ℕ) → Type 0
UpTo n (Some (v, next)) = next ≤ n
UpTo n None = Unit {0}
