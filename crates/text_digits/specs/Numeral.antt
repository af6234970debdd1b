-- Numbers as bytes: eight lower-case hexadecimal digits, and decimal without leading zeros.
use Rattle.std.specs.Prelude.{cond, List, [], ◌∷◌, ℕ, zero, suc, ◌+◌, ◌/◌, ◌%◌, ◌^◌, ltb}

-- the byte of a digit below 16: '0' to '9', 'a' to 'f'
abbrev pub byte_of : ℕ → ℕ
byte_of d = cond (ltb d 10) (48 + d) (87 + d)

-- n in k digits to the base b, the highest first
unfoldable pub places : ℕ → ℕ → ℕ → List ℕ
places b zero n = []
places b (suc k) n = byte_of (n / b ^ k) ∷ places b k (n % b ^ k)

-- how many decimal digits n has; the first argument bounds the steps
unfoldable pub size_in : ℕ → ℕ → ℕ
size_in zero n = 1
size_in (suc f) n = let more = suc (size_in f (n / 10)) in cond (ltb n 10) 1 more

abbrev pub size : ℕ → ℕ
size n = size_in n n

-- a word, and a count or a corner
abbrev pub hex : ℕ → List ℕ
hex w = places 16 8 w

abbrev pub decimal : ℕ → List ℕ
decimal n = places 10 (size n) n
