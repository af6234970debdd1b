-- The first loop of each piece, by the piece and the run of each loop.
use Rattle.std.specs.Prelude.{◌≡◌, ◌⊎◌, List, map, ℕ, ◌/◌, ◌<◌, ◌≤◌, eqb, length, get_or}
use Rattle.base_limits.specs.Limits as limits
use Rattle.rim_pieces.specs.Computed.{numbers_below}
use Rattle.rim_pieces.specs.Workings.Flooding.{none}
use Rattle.rim_mark.specs.Workings.Marking.{mark_of}

-- room for the pieces of n loops
pub record HouseRoom (firsts pieces : List ℕ) (n : ℕ) (homes : List ℕ) : Type 0 where
  pub firsts_long : n ≤ length firsts
  pub homes_long : n ≤ length homes
  pub there : (l : ℕ) → l < n → get_or firsts l 0 / 3 < length pieces

-- each of them has the number of the triangle of its first half-edge
pub record Houses (firsts pieces : List ℕ) (n : ℕ) (homes : List ℕ) : Type 0 where
  pub told : (l : ℕ) → l < n → get_or homes l 0 ≡ get_or pieces (get_or firsts l 0 / 3) 0

-- m comes before l
pub record Ahead (homes runs : List ℕ) (l m : ℕ) : Type 0 where
  pub same : get_or homes m 0 ≡ get_or homes l 0
  pub more : (get_or runs l 0 < get_or runs m 0) ⊎ ((get_or runs l 0 ≡ get_or runs m 0) × (m < l))

-- b is the first of piece p among the loops below k
pub record First (homes runs : List ℕ) (p k b : ℕ) : Type 0 where
  pub here : b < k
  pub home : get_or homes b 0 ≡ p
  pub first : (m : ℕ) → m < k → Ahead homes runs b m → ⊥

-- no number of a loop stands for a piece yet
pub record RankRoom (homes runs : List ℕ) (n : ℕ) (best : List ℕ) : Type 0 where
  pub few : n ≤ limits.triangles
  pub homes_long : n ≤ length homes
  pub runs_long : n ≤ length runs
  pub there : (l : ℕ) → l < n → get_or homes l 0 < length best
  pub clear : (l : ℕ) → l < n → get_or best (get_or homes l 0) 0 ≡ none

-- each loop that has a rival, another loop of its piece, has a number there
pub record Rivals (homes : List ℕ) (n : ℕ) (runs : List ℕ) : Type 0 where
  pub flagged : (l m : ℕ) → l < n → m < n → (l ≡ m → ⊥) → get_or homes l 0 ≡ get_or homes m 0 → get_or runs l 0 ≡ 0 → ⊥

-- for the piece of each loop its first stands
pub record Ranks (homes runs : List ℕ) (n : ℕ) (best : List ℕ) : Type 0 where
  pub told : (l : ℕ) → l < n → First homes runs (get_or homes l 0) n (get_or best (get_or homes l 0) 0)

-- what is told of the first n loops
abbrev pub told_mark : List ℕ → List ℕ → ℕ → ℕ
told_mark homes best l = mark_of (eqb (get_or best (get_or homes l 0) 0) l)

unfoldable pub told_marks : List ℕ → List ℕ → ℕ → List ℕ
told_marks homes best n = map (told_mark homes best) (numbers_below n)

pub record TellRoom (homes best : List ℕ) (n : ℕ) (marks : List ℕ) : Type 0 where
  pub homes_long : n ≤ length homes
  pub marks_long : n ≤ length marks
  pub there : (l : ℕ) → l < n → get_or homes l 0 < length best
