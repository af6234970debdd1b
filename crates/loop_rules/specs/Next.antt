-- Next. "From open u to v in triangle (u,v,w) take v to w. While the edge in hand, v to x, is not open, go to the triangle
-- holding x to v and take the edge of it that leaves v. The first open one is the next."
use Rattle.std.specs.Prelude.{List, ℕ, zero, suc, length, Option, Some, None}
use Rattle.surface_rules.specs.Edges.{following, twin}

-- The edge in hand, e, stays where it is open. Otherwise the triangle that holds its twin has an edge that leaves the same
-- vertex: the one after the twin.
abbrev pub across : Option ℕ → ℕ → ℕ
across None e = e
across (Some g) e = following g

unfoldable pub step : List ℕ → ℕ → ℕ
step corners e = across (twin corners e) e

-- k steps from e
unfoldable pub turn : List ℕ → ℕ → ℕ → ℕ
turn corners zero e = e
turn corners (suc k) e = step corners (turn corners k e)

-- No turn takes more steps than there are half-edges, so after that many the edge in hand is the first open one.
unfoldable pub next : List ℕ → ℕ → ℕ
next corners h = turn corners (length corners) (following h)
