-- What holds of the path while it grows.
use Rattle.std.specs.Prelude.{◌≡◌, List, [], ◌∷◌, ◌++◌, ℕ, ◌+◌, ◌-◌, ◌≤◌, ◌<◌, length, get_or, take, drop, Some}
use Rattle.base_limits.specs.Limits as limits
use Rattle.surface_rules.specs.Edges.{following, start_of, end_of}
use Rattle.loop_rules.specs.Loops.{Split, starts_at, grow}
use Rattle.loop_cut.specs.Listing.{ListsLoops}
use Rattle.loop_cut.specs.declared.Listed.{Listed}

-- ---- the path, and the place of each point on it

-- the path has `depth` edges, and each one's start has its place
pub record Path (corners path : List ℕ) (depth : ℕ) (places : List ℕ) : Type 0 where
  pub long : depth ≤ length path
  pub edges : (i : ℕ) → i < depth → get_or path i 0 < length corners
  pub placed : (i : ℕ) → i < depth → get_or places (start_of corners (get_or path i 0)) 0 ≡ i

-- where x is looked for: it has a place, which is right if an edge of the path starts at x
pub record Sought (corners path : List ℕ) (depth : ℕ) (places : List ℕ) (x : ℕ) : Type 0 where
  pub long : depth ≤ length path
  pub edges : (i : ℕ) → i < depth → get_or path i 0 < length corners
  pub point : x < length places
  pub placed : (i : ℕ) → i < depth → start_of corners (get_or path i 0) ≡ x → get_or places x 0 ≡ i

-- ---- the listing

-- where the loops are listed: their rings, their lengths and their first half-edges
pub record Ledger : Type 0 where
  pub rings : List ℕ
  pub lengths : List ℕ
  pub firsts : List ℕ

abbrev pub ledger : List ℕ → List ℕ → List ℕ → Ledger
ledger rings lengths firsts = record { rings = rings; lengths = lengths; firsts = firsts }

-- the loops ls are listed there, over what it was
abbrev pub ListsIn : List ℕ → List (List ℕ) → Ledger → Listed → Ledger → Type 0
ListsIn corners ls w₀ at w = ListsLoops corners ls w₀.rings w₀.lengths w₀.firsts at w.rings w.lengths w.firsts

-- the path's edges from j up to `end`
abbrev pub part : List ℕ → ℕ → ℕ → List ℕ
part path j end = drop j (take end path)

pub record RingRoom (corners path : List ℕ) (j end : ℕ) (rings : List ℕ) (from : ℕ) : Type 0 where
  pub order : j ≤ end
  pub long : end ≤ length path
  pub edges : (i : ℕ) → i < end → get_or path i 0 < length corners
  pub room : from + (end - j) ≤ length rings

pub record CutRoom (corners path : List ℕ) (j end : ℕ) (w : Ledger) (at : Listed) : Type 0 where
  pub some : j < end
  pub few : end ≤ limits.corners
  pub ring : RingRoom corners path j end w.rings at.vertices
  pub lengths_room : at.loops < length w.lengths
  pub firsts_room : at.loops < length w.firsts

-- the part of the path from j is listed behind whatever loops were
pub record WasCut (corners path : List ℕ) (j end : ℕ) (at : Listed) (w : Ledger) (r : Listed) (w' : Ledger) : Type 0 where
  pub back : r.path ≡ j
  pub lists : (ls : List (List ℕ)) (w₀ : Ledger) → ListsIn corners ls w₀ at w → ListsIn corners (ls ++ (part path j end ∷ [])) w₀ r w'

-- the path and the listing are those of t
pub record Stands (corners : List ℕ) (t : Split) (w₀ : Ledger) (path : List ℕ) (at : Listed) (w : Ledger) : Type 0 where
  pub depth : at.path ≡ length t.path
  pub along : take at.path path ≡ t.path
  pub lists : ListsIn corners t.listed w₀ at w

pub record GrowRoom (corners : List ℕ) (e f : ℕ) (path places : List ℕ) (w : Ledger) (at : Listed) : Type 0 where
  pub few : length corners ≤ limits.corners
  pub edge : e < length corners
  pub after : f ≡ following e
  pub after_edge : f < length corners
  pub named : (i : ℕ) → i < length corners → get_or corners i 0 < length places
  pub kept : Path corners path at.path places
  pub new : (i : ℕ) → i < at.path → start_of corners (get_or path i 0) ≡ start_of corners e → ⊥
  pub deep : at.path < length corners
  pub path_room : at.path < length path
  pub rings_room : at.vertices + (at.path + 1) ≤ length w.rings
  pub lengths_room : (j : ℕ) → starts_at corners (take at.path path ++ (e ∷ [])) (end_of corners e) ≡ Some j → at.loops < length w.lengths
  pub firsts_room : (j : ℕ) → starts_at corners (take at.path path ++ (e ∷ [])) (end_of corners e) ≡ Some j → at.loops < length w.firsts

-- whatever stood there has grown by e
pub record Grew (corners : List ℕ) (e : ℕ) (path : List ℕ) (at : Listed) (w : Ledger) (path' places' : List ℕ) (r : Listed) (w' : Ledger) : Type 0 where
  pub kept : Path corners path' r.path places'
  pub stands : (t : Split) (w₀ : Ledger) → Stands corners t w₀ path at w → Stands corners (grow corners t e) w₀ path' r w'
