-- The corners of a set's triangles, three by three.
use Rattle.std.specs.Prelude.{ℕ, ◌+◌, ◌*◌, ◌≡◌, List, length, get_or}
use Rattle.cover_rules.specs.Covers.{Triangle, on}

-- the list has three numbers for each of so many triangles
pub record Threes (set : List ℕ) : Type 0 where
  pub triangles : ℕ
  pub threes : length set ≡ 3 * triangles

-- the triangle whose corners stand from q on
abbrev pub triple_at : List ℕ → ℕ → Triangle
triple_at set q = on (get_or set q 0) (get_or set (q + 1) 0) (get_or set (q + 2) 0)
