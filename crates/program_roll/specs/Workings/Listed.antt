-- What the buffers hold that are listed.
use Rattle.std.specs.Prelude.{◌≡◌, List, ℕ, ◌<◌, length, get_or}
use Rattle.program_lines.specs.Listing.{Shown}
use Rattle.program_lines.specs.Workings.Telling.{Inventory, Lying, Fits, nothing}

-- so many loops, one after the other, the lines of each no wider than there is room for
pub record Listed (w : Inventory) (count : ℕ) : Type 0 where
  pub loops : List Shown
  pub lying : Lying loops w
  pub fits : (l : ℕ) → l < length loops → Fits (get_or loops l nothing)
  pub many : length loops ≡ count
