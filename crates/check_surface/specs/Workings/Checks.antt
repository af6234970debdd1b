-- What the checks answer, and what is known of a surface that passed them.
use Rattle.std.specs.Prelude.{◌≡◌, List, ℕ, ◌/◌, ◌≤◌, ◌<◌, length, get_or}
use Rattle.base_answers.specs.declared.Answer.{Answer}
use Rattle.base_answers.specs.declared.Answer.TheVariants.{Done}
use Rattle.surface_rules.specs.Edges.{Sound}
use Rattle.surface_rules.specs.Refusals.{count_refusal, corner_refusal, content_refusal}
use Rattle.surface_twins.specs.Workings.Turns.{Turns}
use Rattle.check_words.specs.Workings.OnGrid.{OnGrid}

-- the corners passed 4, 5 and 6: each names a point, and the table has every half-edge's turn
pub record Woven (corners : List ℕ) (points : ℕ) (table : List ℕ) : Type 0 where
  pub sound : Sound corners
  pub named : (i : ℕ) → i < length corners → get_or corners i 0 < points
  pub turns : Turns corners table

-- what checking the corners answers
pub record CornersChecked (corners : List ℕ) (points : ℕ) (answer : Answer) (table : List ℕ) : Type 0 where
  pub said : answer ≡ corner_refusal corners points
  pub woven : answer ≡ Done → Woven corners points table

-- 1 and 2 were not given, and the table is long enough for this surface
pub record Fitted (words corners table : List ℕ) : Type 0 where
  pub counts : count_refusal (length words) (length corners) ≡ Done
  pub long : length corners ≤ length table

-- what is known of a surface that passed 1 to 8
pub record Passed (pitch : ℕ) (words corners lent needs table : List ℕ) : Type 0 where
  pub long : (i : ℕ) → i < length needs → get_or needs i 0 ≤ get_or lent i 0
  pub woven : Woven corners (length words / 3) table
  pub on_grid : OnGrid pitch words

-- what checking from 3 on answers
pub record Checked (pitch : ℕ) (words corners lent needs : List ℕ) (answer : Answer) (table : List ℕ) : Type 0 where
  pub said : answer ≡ content_refusal pitch words corners lent needs
  pub passed : answer ≡ Done → Passed pitch words corners lent needs table
