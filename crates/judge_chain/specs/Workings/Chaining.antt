-- A cover that was matched is chained: what the code is given and leaves.
use Rattle.std.specs.Prelude.{◌≡◌, true, List, ◌++◌, ℕ, ◌+◌, ◌-◌, ◌*◌, ◌/◌, ◌%◌, ◌^◌, ◌<◌, ◌≤◌, length, get_or}
use Rattle.base_limits.specs.Limits as limits
use Rattle.surface_rules.specs.Threes.{threes}
use Rattle.cover_rules.specs.Covers.{Cover}
use Rattle.cover_bars.specs.Bars.{between}
use Rattle.cover_bars.specs.Workings.Chains.{Tells}
use Rattle.cover_sum.specs.Workings.Triples.{Threes}
use Rattle.judge_seat.specs.Workings.Seats.{Ringed}
use Rattle.judge_seat.specs.Workings.Covering.{Covering}

-- the ring is stamped, and there is room for an edge a triangle
pub record CoverRoom (ring stamps : List ℕ) (base : ℕ) (set heads links ends : List ℕ) (e : ℕ) : Type 0 where
  pub ringed : Ringed ring base stamps
  pub threes : Threes set
  pub heads_long : length heads ≡ limits.points
  pub links_room : e + length set / 3 ≤ length links
  pub ends_room : e + length set / 3 ≤ length ends
  pub few : e + length set / 3 < 2 ^ 16

-- at most an edge a triangle is chained; and if the set is a cover of the ring, whose sides the input joins, and the chains told what
-- the input and the triangles laid before join, then they tell what those and this set join
pub record CoverChained (ring set heads links ends : List ℕ) (e r : ℕ) (heads' links' ends' : List ℕ) : Type 0 where
  pub few : r ≤ e + length set / 3
  pub heads_long : length heads' ≡ limits.points
  pub tells :
      (input laid : List ℕ) (c : Cover) → length laid % 3 ≡ 0 → length set ≡ 3 * (length ring - 2) → Covering ring (threes set) c
      → ((j : ℕ) → j + 1 < length ring → between input (get_or ring j 0) (get_or ring (j + 1) 0) ≡ true)
      → Tells input laid e heads links ends → Tells input (laid ++ set) r heads' links' ends'
