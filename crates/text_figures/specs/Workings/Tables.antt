-- The tables of digits that a caller makes once and lends: all bytes in two digits, and numbers in four.
use Rattle.std.specs.Prelude.{◌≡◌, List, ℕ, ◌+◌, ◌*◌, ◌/◌, ◌%◌, ◌<◌, length, get_or}
use Rattle.text_digits.specs.Numeral.{byte_of}

-- a byte in two digits, the first in the lower byte
unfoldable pub pair_of : ℕ → ℕ
pair_of b = byte_of (b / 16) + 256 * byte_of (b % 16)

-- every byte below n in two digits
pub record Spelled (n : ℕ) (pairs : List ℕ) : Type 0 where
  pub long : length pairs ≡ 256
  pub pair : (b : ℕ) → b < n → get_or pairs b 0 ≡ pair_of b

-- four bytes as one number, the first the lowest
unfoldable pub four : ℕ → ℕ → ℕ → ℕ → ℕ
four a b c d = a + 256 * b + 65536 * (c + 256 * d)

-- the four decimal digits of a number below 10,000
unfoldable pub four_of : ℕ → ℕ
four_of n = four (byte_of (n / 1000)) (byte_of (n / 100 % 10)) (byte_of (n / 10 % 10)) (byte_of (n % 10))
