-- Loops. A loop is the list of its half-edges, from the one that it is listed from; its ring is where they start.
use Rattle.std.specs.Prelude.{Bool, true, ◌&&◌, cond, List, [], ◌∷◌, ◌++◌, map, ℕ, zero, suc, eqb, leb, length, get_or, take, drop, Option, Some, None}
use Rattle.surface_rules.specs.Smallest.{least}
use Rattle.surface_rules.specs.Edges.{start_of, end_of, is_open}
use Rattle.loop_rules.specs.Next.{next}

-- the edges from e on, each the next of the one before, up to the one whose next is h; at most k of them
unfoldable pub around : List ℕ → ℕ → ℕ → ℕ → List ℕ
around corners zero h e = []
around corners (suc k) h e = let rest = around corners k h (next corners e) in e ∷ cond (eqb (next corners e) h) [] rest

-- "so they fall into cycles": the cycle of the open edge h, from h on
unfoldable pub cycle : List ℕ → ℕ → List ℕ
cycle corners h = around corners (length corners) h h

abbrev pub all : (ℕ → Bool) → List ℕ → Bool
all p [] = true
all p (x ∷ xs) = p x && all p xs

-- "Cycles are taken by their smallest half-edge": h is open, and the smallest of its cycle
unfoldable pub leads : List ℕ → ℕ → Bool
leads corners h = let c = cycle corners h in is_open corners h && all (leb h) c

-- "Keep a path." The path so far, and the loops listed so far.
pub record Split : Type 0 where
  pub path : List ℕ
  pub listed : List (List ℕ)

-- where "an edge of the path starts at x"
unfoldable pub starts_at : List ℕ → List ℕ → ℕ → Option ℕ
starts_at corners path x = least (λ (i : ℕ). eqb (start_of corners (get_or path i 0)) x) (length path)

-- "cut off the path from that edge on: that is a loop, listed now, from that edge"
abbrev pub cut : Option ℕ → List ℕ → List (List ℕ) → Split
cut (Some j) path listed = record { path = take j path; listed = listed ++ (drop j path ∷ []) }
cut None path listed = record { path = path; listed = listed }

-- "After adding an edge that ends at x, if an edge of the path starts at x", the path is cut.
unfoldable pub grow : List ℕ → Split → ℕ → Split
grow corners s e = let p = s.path ++ (e ∷ []) in cut (starts_at corners p (end_of corners e)) p s.listed

unfoldable pub grow_all : List ℕ → Split → List ℕ → Split
grow_all corners s [] = s
grow_all corners s (e ∷ es) = grow_all corners (grow corners s e) es

-- the loops of one cycle, walked from h
unfoldable pub loops_of : List ℕ → ℕ → List (List ℕ)
loops_of corners h = (grow_all corners (record { path = []; listed = [] }) (cycle corners h)).listed

-- "Cycles are taken by their smallest half-edge, ascending": the loops of those whose smallest is below k
unfoldable pub loops_below : List ℕ → ℕ → List (List ℕ)
loops_below corners zero = []
loops_below corners (suc k) = let before = loops_below corners k in before ++ cond (leads corners k) (loops_of corners k) []

-- the surface's loops, in listed order
unfoldable pub loops : List ℕ → List (List ℕ)
loops corners = loops_below corners (length corners)

-- a loop's vertices
abbrev pub ring : List ℕ → List ℕ → List ℕ
ring corners l = map (start_of corners) l
