-- The table of what bytes stand for as digits, which a caller makes once and lends.
use Rattle.std.specs.Prelude.{◌≡◌, cond, List, ℕ, ◌+◌, ◌*◌, ◌<◌, ltb, length, get_or}
use Rattle.text_digits.specs.Workings.Reading.{value_of}

-- what a digit below n weighs, t times itself; what is no such digit weighs more than four digits can
unfoldable pub weighs : ℕ → ℕ → ℕ → ℕ
weighs n t x = cond (ltb (value_of x) n) (t * value_of x) 65536

-- every byte's weight as a lower digit, and behind all of them as a higher one, of digits below n
pub record Marked (n : ℕ) (values : List ℕ) : Type 0 where
  pub long : length values ≡ 512
  pub low : (x : ℕ) → x < 256 → get_or values x 0 ≡ weighs n 1 x
  pub high : (x : ℕ) → x < 256 → get_or values (256 + x) 0 ≡ weighs n 16 x

-- the weight of four bytes
unfoldable pub half : ℕ → ℕ → ℕ → ℕ → ℕ
half a b c d = 256 * (weighs 16 16 a + weighs 16 1 b) + (weighs 16 16 c + weighs 16 1 d)
