-- Room to list the loops apart from the lent buffers.
use Rattle.std.specs.Prelude.{List, ℕ, ◌/◌, ◌≤◌, length}
use Rattle.fill_scratch.specs.Workings.Scratch.{Scratch}

pub record ListingRoom (words corners turns path places rings lengths marks : List ℕ) : Type 0 where
  pub scratch : Scratch words corners turns path places
  pub rings_long : length corners ≤ length rings
  pub lengths_long : length corners / 3 ≤ length lengths
  pub marks_long : length corners / 3 ≤ length marks
