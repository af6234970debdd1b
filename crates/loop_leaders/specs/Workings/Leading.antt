-- What the table of turns leads to.
use Rattle.std.specs.Prelude.{◌≡◌, List, ℕ, zero, suc, ◌≤◌, ◌<◌, length, get_or}
use Rattle.surface_twins.specs.Workings.Turns.{open_mark}

-- what stands for an open edge that was walked, above every half-edge
abbrev pub walked_mark : ℕ
walked_mark = 4095

-- none from h up to r is an open edge that was not walked
unfoldable pub Quiet : List ℕ → ℕ → ℕ → Type 0
Quiet turns h r = (k : ℕ) → h ≤ k → k < r → get_or turns k 0 < open_mark

-- k turns by the table, from e
unfoldable pub jump : List ℕ → ℕ → ℕ → ℕ
jump turns zero e = e
jump turns (suc k) e = get_or turns (jump turns k e) 0

-- the table leads from f to an open edge in k turns, and to none before
pub record Lands (turns : List ℕ) (f k : ℕ) : Type 0 where
  pub within : k ≤ length turns
  pub below : (i : ℕ) → i ≤ k → jump turns i f < length turns
  pub closed : (i : ℕ) → i < k → get_or turns (jump turns i f) 0 < walked_mark
  pub opens : walked_mark ≤ get_or turns (jump turns k f) 0

pub record Landing (turns : List ℕ) (f : ℕ) : Type 0 where
  pub steps : ℕ
  pub lands : Lands turns f steps

unfoldable pub Landed : List ℕ → ℕ → ℕ → Type 0
Landed turns f r = (k : ℕ) → Lands turns f k → r ≡ jump turns k f
