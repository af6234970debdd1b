-- "Each is written from its start ...; everything after that stays": a lent buffer with `front` laid over its start.
use Rattle.std.specs.Prelude.{List, ◌++◌, ℕ, ◌+◌, length, take, drop}

module _ {A : Type 0} where
  unfoldable pub over : List A → List A → List A
  over front buffer = front ++ drop (length front) buffer

  -- xs laid over a buffer from a place on
  unfoldable pub laid : ℕ → List A → List A → List A
  laid at xs buffer = take at buffer ++ (xs ++ drop (at + length xs) buffer)
