-- A row of yes and no for all positions of a loop, kept as the digits of one word.
use Rattle.std.specs.Prelude.{◌≡◌, Bool, List, ℕ, ◌/◌, ◌%◌, ◌^◌, ◌<◌, eqb, length, get_or}
use Rattle.base_limits.specs.Limits as limits

-- digit k of the word is set
unfoldable pub bit : ℕ → ℕ → Bool
bit word k = eqb (word / 2 ^ k % 2) 1

-- row a has the digit b set exactly if p a b, for each position a of a loop of n
pub record Rows (n : ℕ) (p : ℕ → ℕ → Bool) (rows : List ℕ) : Type 0 where
  pub long : length rows ≡ limits.longest
  pub tells : (a b : ℕ) → a < n → b < limits.longest → bit (get_or rows a 0) b ≡ p a b
