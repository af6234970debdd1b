-- Demand 3, of the edges: "After a passed set no directed edge occurs twice and the only open edges are those of loops declared open
-- or long." It holds of every filling of the loops, whoever laid it.
use Rattle.std.specs.Prelude.{◌≡◌, true, false, ◌⊎◌, ℕ, ◌<◌, length, get_or}
use mathlib.Core.List.{List, [], ◌++◌, flatten}
use Rattle.surface_rules.specs.Edges.{is_open, start_of, end_of}
use Rattle.cover_bars.specs.Bars.{edge, between}
use Rattle.demands.specs.Loops.{StandsAt}

-- the surface and the patches of its loops, one after the other
abbrev pub after : List ℕ → List (List ℕ) → List ℕ
after corners patches = corners ++ flatten patches

-- what was laid in loop l
abbrev pub laid_in : List (List ℕ) → ℕ → List ℕ
laid_in patches l = get_or patches l []

-- an edge of loop l runs from v to u
abbrev pub Against : List ℕ → ℕ → ℕ → ℕ → Type 0
Against corners l u v = (e : ℕ) × (i : ℕ) × StandsAt corners e l i × (start_of corners e ≡ v) × (end_of corners e ≡ u)

pub record ClosingDemand (corners : List ℕ) (patches : List (List ℕ)) : Type 0 where
  -- No directed edge occurs twice.
  pub none_twice : (g h : ℕ) → g < length (after corners patches) → h < length (after corners patches)
      → start_of (after corners patches) g ≡ start_of (after corners patches) h
      → end_of (after corners patches) g ≡ end_of (after corners patches) h → g ≡ h
  -- The only open edges are those of loops in which nothing was laid,
  pub only_those : (h : ℕ) → h < length (after corners patches) → is_open (after corners patches) h ≡ true
      → (l : ℕ) × (i : ℕ) × StandsAt corners h l i × (laid_in patches l ≡ [])
  -- and all of these are open.
  pub all_those : (h l i : ℕ) → StandsAt corners h l i → laid_in patches l ≡ [] → is_open (after corners patches) h ≡ true
  -- An edge of a patch is wound against an edge of its loop, or it is a diagonal: no edge of the input, and laid in no other loop.
  pub each_edge : (l u v : ℕ) → edge (laid_in patches l) u v ≡ true
      → Against corners l u v ⊎ ((between corners u v ≡ false) × ((m : ℕ) → (m ≡ l → ⊥) → between (laid_in patches m) u v ≡ false))
