-- Pieces. "Pieces are groups of triangles joined through shared edges." A piece has a "number (from 0, in the order of their smallest
-- triangles)".
use Rattle.std.specs.Prelude.{◌≡◌, List, ℕ, ◌/◌, ◌<◌, length, get_or}
use Rattle.surface_rules.specs.Edges.{start_of, end_of}

-- how many triangles there are
abbrev pub triangle_count : List ℕ → ℕ
triangle_count corners = length corners / 3

-- triangles t and u share an edge: a half-edge of the one runs the other way to a half-edge of the other
pub record Shares (corners : List ℕ) (t u : ℕ) : Type 0 where
  pub here : ℕ
  pub there : ℕ
  pub here_in : here < length corners
  pub there_in : there < length corners
  pub of_first : here / 3 ≡ t
  pub of_second : there / 3 ≡ u
  pub starts : start_of corners there ≡ end_of corners here
  pub ends : end_of corners there ≡ start_of corners here

-- t is joined to u: by no edge, being the same; or to one that shares an edge with u
pub data Joined (corners : List ℕ) (t : ℕ) : ℕ → Type 0 where
  itself : Joined corners t t
  onward : (u v : ℕ) → Joined corners t u → Shares corners u v → Joined corners t v

-- the numbers of the pieces, a number for each triangle: two triangles have one number exactly if they are joined, and numbers are given from
-- 0 on, in the order of the triangles
pub record Numbered (corners pieces : List ℕ) : Type 0 where
  pub alike : (t u : ℕ) → t < triangle_count corners → u < triangle_count corners → Joined corners t u → get_or pieces t 0 ≡ get_or pieces u 0
  pub apart : (t u : ℕ) → t < triangle_count corners → u < triangle_count corners → get_or pieces t 0 ≡ get_or pieces u 0 → Joined corners t u
  pub in_order : (t n : ℕ) → t < triangle_count corners → n < get_or pieces t 0 → (u : ℕ) × (u < t) × (get_or pieces u 0 ≡ n)
