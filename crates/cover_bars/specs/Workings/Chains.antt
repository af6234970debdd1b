-- What the code keeps to find the bars of a loop: edges chained by the point they leave, and the loop's positions stamped over a
-- rising base.
use Rattle.std.specs.Prelude.{◌≡◌, Bool, true, false, not, ◌&&◌, ◌||◌, List, [], ◌∷◌, ◌++◌, ℕ, ◌+◌, ◌-◌, ◌/◌, ◌%◌, ◌^◌, ◌<◌, ◌≤◌, eqb, ltb, length, get_or}
use Rattle.base_limits.specs.Limits as limits
use Rattle.surface_twins.specs.Workings.Chains.{top}
use Rattle.cover_rules.specs.Covers.{Cover, Covers, patch_of}
use Rattle.cover_bits.specs.Workings.Masks.{Rows}
use Rattle.cover_bars.specs.Bars.{follows, between, barred}

-- ---- edges

pub record Edge : Type 0 where
  pub from : ℕ
  pub to : ℕ

abbrev pub edge_of : ℕ → ℕ → Edge
edge_of u v = record { from = u; to = v }

-- an edge of the list joins u and v, in either direction
unfoldable pub joins : List Edge → ℕ → ℕ → Bool
joins [] u v = false
joins (e ∷ es) u v = (eqb e.from u && eqb e.to v) || (eqb e.from v && eqb e.to u) || joins es u v

-- an edge of the list runs from u to v
unfoldable pub reaches : List Edge → ℕ → ℕ → Bool
reaches [] u v = false
reaches (e ∷ es) u v = (eqb e.from u && eqb e.to v) || reaches es u v

-- edge e of the list leaves u
unfoldable pub leaves : List Edge → ℕ → ℕ → Bool
leaves es u e = eqb (get_or es e (edge_of 0 0)).from u

-- the edges are chained by the points they leave, the last first, each by its number from 1
pub record Chained (es : List Edge) (heads links ends : List ℕ) : Type 0 where
  pub heads_long : length heads ≡ limits.points
  pub links_room : length es ≤ length links
  pub ends_room : length es ≤ length ends
  pub inside : (e : ℕ) → e < length es → ((get_or es e (edge_of 0 0)).from < limits.points) × ((get_or es e (edge_of 0 0)).to < limits.points)
  pub headed : (u : ℕ) → u < limits.points → get_or heads u 0 ≡ top (leaves es u) (length es)
  pub linked : (e : ℕ) → e < length es → get_or links e 0 ≡ top (leaves es (get_or es e (edge_of 0 0)).from) e
  pub ended : (e : ℕ) → e < length es → get_or ends e 0 ≡ (get_or es e (edge_of 0 0)).to

-- there is room for edge e, from u to v
pub record ChainRoom (e u v : ℕ) (heads links ends : List ℕ) : Type 0 where
  pub heads_long : length heads ≡ limits.points
  pub links_room : e < length links
  pub ends_room : e < length ends
  pub leaves_inside : u < limits.points
  pub ends_inside : v < limits.points
  pub few : e + 1 < 2 ^ 16

-- edge e, from u to v, comes behind the e edges that were chained before, whichever these are
pub record ChainDone (e u v : ℕ) (heads links ends heads' links' ends' : List ℕ) : Type 0 where
  pub heads_long : length heads' ≡ limits.points
  pub links_kept : length links' ≡ length links
  pub ends_kept : length ends' ≡ length ends
  pub more : (es : List Edge) → length es ≡ e → Chained es heads links ends → Chained (es ++ (edge_of u v ∷ [])) heads' links' ends'

-- the chains are empty, and have room for an edge a corner
pub record InputRoom (corners heads links ends : List ℕ) : Type 0 where
  pub triples : length corners % 3 ≡ 0
  pub few : length corners < 2 ^ 16
  pub inside : (h : ℕ) → h < length corners → get_or corners h 0 < limits.points
  pub heads_long : length heads ≡ limits.points
  pub none : (u : ℕ) → u < limits.points → get_or heads u 0 ≡ 0
  pub links_room : length corners ≤ length links
  pub ends_room : length corners ≤ length ends

-- the chained edges join the points that the input or the laid patches join, and no others
pub record Tells (input laid : List ℕ) (n : ℕ) (heads links ends : List ℕ) : Type 0 where
  pub edges : List Edge
  pub many : length edges ≡ n
  pub chained : Chained edges heads links ends
  pub same : (u v : ℕ) → joins edges u v ≡ (between input u v || between laid u v)

-- the first sides of the triangles with these corners
unfoldable pub firsts : List ℕ → List Edge
firsts [] = []
firsts (a ∷ []) = []
firsts (a ∷ (b ∷ [])) = []
firsts (a ∷ (b ∷ (c ∷ rest))) = edge_of a b ∷ firsts rest

-- there is room for an edge a triangle of those from p up to end
pub record LaidRoom (patches : List ℕ) (p end : ℕ) (heads links ends : List ℕ) (e : ℕ) : Type 0 where
  pub forward : p ≤ end
  pub triples : (end - p) % 3 ≡ 0
  pub within : end ≤ length patches
  pub inside : (i : ℕ) → p ≤ i → i < end → get_or patches i 0 < limits.points
  pub heads_long : length heads ≡ limits.points
  pub links_room : e + (end - p) / 3 ≤ length links
  pub ends_room : e + (end - p) / 3 ≤ length ends
  pub few : e + (end - p) / 3 < 2 ^ 16

-- an edge a triangle of these is chained; and if they are a cover of a ring whose sides the input joins, and the chains told what the input
-- and the patches laid before join, then they tell what those and this one join
pub record LaidDone (these heads links ends : List ℕ) (e r : ℕ) (heads' links' ends' : List ℕ) : Type 0 where
  pub count : r ≡ e + length these / 3
  pub heads_long : length heads' ≡ limits.points
  pub tells :
      (input laid ring : List ℕ) (c : Cover) → length laid % 3 ≡ 0 → Covers 0 (length ring - 1) c
      → ((j : ℕ) → j + 1 < length ring → between input (get_or ring j 0) (get_or ring (j + 1) 0) ≡ true)
      → these ≡ patch_of ring c → Tells input laid e heads links ends
      → Tells input (laid ++ patch_of ring c) r heads' links' ends'

-- ---- stamps

-- the vertices of the ring, and no other point, are stamped with their positions over the base
pub record Stamped (ring : List ℕ) (base : ℕ) (stamps : List ℕ) : Type 0 where
  pub long : length stamps ≡ limits.points
  pub placed : (j : ℕ) → j < length ring → get_or stamps (get_or ring j 0) 0 ≡ base + j
  pub only : (v : ℕ) → v < limits.points → base ≤ get_or stamps v 0 → (get_or stamps v 0 - base < length ring) × (get_or ring (get_or stamps v 0 - base) 0 ≡ v)

-- there is room to stamp the ring, over every stamp so far
pub record StampRoom (ring stamps : List ℕ) (base : ℕ) (rows : List ℕ) : Type 0 where
  pub short : length ring ≤ limits.longest
  pub few : base + length ring < 2 ^ 16
  pub inside : (j : ℕ) → j < length ring → get_or ring j 0 < limits.points
  pub apart : (i j : ℕ) → i < length ring → j < length ring → get_or ring i 0 ≡ get_or ring j 0 → i ≡ j
  pub stamps_long : length stamps ≡ limits.points
  pub rows_long : length rows ≡ limits.longest
  pub below : (v : ℕ) → get_or stamps v 0 < base

-- the ring is stamped and its rows are clear
pub record StampDone (ring : List ℕ) (base : ℕ) (stamps rows : List ℕ) : Type 0 where
  pub stamped : Stamped ring base stamps
  pub below : (v : ℕ) → get_or stamps v 0 < base + length ring
  pub rows_long : length rows ≡ limits.longest
  pub clear : (j : ℕ) → j < length ring → get_or rows j 0 ≡ 0

-- ---- rows

-- some edges are chained
pub record Walkable (heads links ends : List ℕ) : Type 0 where
  pub edges : List Edge
  pub chained : Chained edges heads links ends

-- an edge leads from position a of the ring to position b
unfoldable pub leads : List Edge → List ℕ → ℕ → ℕ → Bool
leads es ring a b = ltb b (length ring) && reaches es (get_or ring a 0) (get_or ring b 0)

-- the rows p with those positions that edges lead to from j, set both ways
unfoldable pub with_from : List Edge → List ℕ → ℕ → (ℕ → ℕ → Bool) → ℕ → ℕ → Bool
with_from es ring j p a b = p a b || (eqb a j && leads es ring j b) || (eqb b j && leads es ring j a)

-- an edge leads from one of a and b to the other, from a position below j
unfoldable pub met_below : List Edge → List ℕ → ℕ → ℕ → ℕ → Bool
met_below es ring j a b = (ltb a j && leads es ring a b) || (ltb b j && leads es ring b a)

-- an edge joins the positions a and b of the ring
unfoldable pub met : List Edge → List ℕ → ℕ → ℕ → Bool
met es ring a b = ltb b (length ring) && joins es (get_or ring a 0) (get_or ring b 0)

-- position b of n is a or a neighbour of it
unfoldable pub touches : ℕ → ℕ → ℕ → Bool
touches n a b = ltb b n && (eqb a b || follows n a b || follows n b a)

-- the rows p without the neighbours of each position below j, and without itself
unfoldable pub cleared_below : ℕ → ℕ → (ℕ → ℕ → Bool) → ℕ → ℕ → Bool
cleared_below n j p a b = p a b && not (ltb a j && touches n a b)

-- the ring is stamped, and there is room to bar its positions
pub record RowsRoom (ring heads links ends stamps : List ℕ) (base : ℕ) (rows : List ℕ) : Type 0 where
  pub walkable : Walkable heads links ends
  pub stamped : Stamped ring base stamps
  pub short : length ring ≤ limits.longest
  pub inside : (j : ℕ) → j < length ring → get_or ring j 0 < limits.points
  pub rows_long : length rows ≡ limits.longest

pub record FromDone (ring heads links ends : List ℕ) (j : ℕ) (rows rows' : List ℕ) : Type 0 where
  pub rows_long : length rows' ≡ limits.longest
  pub more : (es : List Edge) → Chained es heads links ends → (p : ℕ → ℕ → Bool) → Rows (length ring) p rows → Rows (length ring) (with_from es ring j p) rows'

pub record AllDone (ring heads links ends rows : List ℕ) : Type 0 where
  pub rows_long : length rows ≡ limits.longest
  pub all : (es : List Edge) → Chained es heads links ends → Rows (length ring) (met es ring) rows

pub record SidesDone (n : ℕ) (rows rows' : List ℕ) : Type 0 where
  pub rows_long : length rows' ≡ limits.longest
  pub cleared : (p : ℕ → ℕ → Bool) → Rows n p rows → Rows n (cleared_below n n p) rows'

-- ---- bars

-- a loop can be barred: it is no shorter than a triangle, its vertices are all different, and no stamp is over the base
pub record BarsRoom (ring heads links ends stamps : List ℕ) (base : ℕ) (rows : List ℕ) : Type 0 where
  pub walkable : Walkable heads links ends
  pub long : 3 ≤ length ring
  pub room : StampRoom ring stamps base rows

-- the ring is stamped, and its rows are its bars by whatever the chains tell
pub record BarsDone (ring heads links ends : List ℕ) (base : ℕ) (stamps rows : List ℕ) : Type 0 where
  pub stamped : Stamped ring base stamps
  pub below : (v : ℕ) → get_or stamps v 0 < base + length ring
  pub rows_long : length rows ≡ limits.longest
  pub bars : (input laid : List ℕ) (n : ℕ) → Tells input laid n heads links ends → Rows (length ring) (barred input laid ring) rows
