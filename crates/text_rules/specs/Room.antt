-- A program's input, as it stands in the room that it was read into.
use Rattle.std.specs.Prelude.{◌≡◌, List, ℕ, length, take}

-- the first n bytes of the room are the input, or as much of it as the room holds
pub record ReadInto (room : List ℕ) (n : ℕ) (input : List ℕ) : Type 0 where
  pub read : take n room ≡ take (length room) input
