-- What the checker works with besides the lent buffers, and how many points and corners are few, for the patcher too.
use Rattle.std.specs.Prelude.{◌≡◌, List, ℕ, ◌*◌, ◌/◌, ◌≤◌, length}
use Rattle.base_answers.specs.declared.Answer.TheVariants.{Done}
use Rattle.surface_rules.specs.Refusals.{count_refusal}

-- so many points and corners are few
abbrev pub few : ℕ
few = 48

-- 1 and 2 were not given, and there is room for a place for each point, and there also for a piece for each triangle. Turns and path are
-- twice as long as they need be for a turn and an edge of the path for each corner: once the rims are marked they become the links and the
-- ends of the chained edges, with room for the input's edges and for as many diagonals.
pub record Scratch (words corners turns path places : List ℕ) : Type 0 where
  pub counts : count_refusal (length words) (length corners) ≡ Done
  pub turns_long : 2 * length corners ≤ length turns
  pub path_long : 2 * length corners ≤ length path
  pub places_long : length words / 3 ≤ length places
  pub pieces_long : length corners / 3 ≤ length places
