-- What the code rests on: points are chained in buckets by their words, numbered from 1, and 0 ends a chain.
use Rattle.std.specs.Prelude.{◌≡◌, Option, Some, None, Bool, false, List, ℕ, ◌+◌, ◌-◌, ◌*◌, ◌/◌, ◌^◌, ◌≤◌, ◌<◌, eqb, length, get_or}
use Rattle.std.specs.Int.Bits.{bit_and}
use Rattle.base_limits.specs.Limits as limits
use Rattle.surface_rules.specs.Threes.{Three, three}
use Rattle.surface_twins.specs.Workings.Chains.{top}
use Rattle.stl_facets.specs.Facets.{front, facet_bytes}
use Rattle.stl_rules.specs.FirstUse.{first_uses}
use Rattle.stl_rules.specs.File.{corners_to, agree, point_at, corner_place}
use Rattle.stl_rules.specs.Reading.{none}

-- ---- buckets

-- a sum of the words, from its bit 27 on
unfoldable pub mixed : ℕ → ℕ → ℕ → ℕ
mixed a b c = (a * 0x1e3779b1 + b * 0x15ebca6b + c * 0x12b2ae35) / 2 ^ 27

-- of so many buckets, that of a point with these words: any function would do
unfoldable pub bucket_of : ℕ → ℕ → ℕ → ℕ → ℕ
bucket_of size a b c = bit_and (mixed a b c) (size - 1)

abbrev pub bucket_at : ℕ → Three → ℕ
bucket_at size p = bucket_of size p.first p.second p.third

-- the bucket of point k
unfoldable pub home : ℕ → List Three → ℕ → ℕ
home size met k = bucket_at size (get_or met k none)

-- k is of bucket b
unfoldable pub in_bucket : ℕ → List Three → ℕ → ℕ → Bool
in_bucket size met b k = eqb (home size met k) b

-- ---- chains

-- point k, by its words
unfoldable pub point_in : List ℕ → ℕ → Three
point_in ws k = three (get_or ws (3 * k) 0) (get_or ws (3 * k + 1) 0) (get_or ws (3 * k + 2) 0)

-- the words of those met
unfoldable pub Kept : List Three → ℕ → List ℕ → Type 0
Kept met n ws = (k : ℕ) → k < n → point_in ws k ≡ get_or met k none

-- each bucket has the last of its own
unfoldable pub Headed : ℕ → List Three → ℕ → List ℕ → Type 0
Headed size met n heads = (b : ℕ) → b < size → get_or heads b 0 ≡ top (in_bucket size met b) n

-- each point has the one before it in its bucket
unfoldable pub Linked : ℕ → List Three → ℕ → List ℕ → Type 0
Linked size met n links = (k : ℕ) → k < n → get_or links k 0 ≡ top (in_bucket size met (home size met k)) k

-- ---- the walk along a chain

-- the chain from `last` on is the bucket of these words
pub record SeekRoom (ws links : List ℕ) (last a b c : ℕ) : Type 0 where
  pub size : ℕ
  pub met : List Three
  pub words_long : 3 * last ≤ length ws
  pub links_long : last ≤ length links
  pub kept : Kept met last ws
  pub linked : Linked size met last links
  pub here : 0 < last → home size met (last - 1) ≡ bucket_of size a b c

-- a point with these words below n, or that there is none
unfoldable pub Seeks : List ℕ → ℕ → ℕ → ℕ → ℕ → Option ℕ → Type 0
Seeks ws a b c n (Some k) = (k < n) × (point_in ws k ≡ three a b c)
Seeks ws a b c n None = (k : ℕ) → k < n → agree (point_in ws k) (three a b c) ≡ false

-- ---- the corners

-- those met in the first i corners
unfoldable pub met_by : List ℕ → ℕ → List Three
met_by file i = first_uses agree none (corners_to file i)

-- x is the number of corner j's point among those n met
abbrev pub Names : List ℕ → List Three → ℕ → ℕ → ℕ → Type 0
Names file met n j x = (x < n) × (get_or met x none ≡ point_at file (corner_place j))

unfoldable pub Named : List ℕ → List Three → ℕ → ℕ → List ℕ → Type 0
Named file met n i cs = (j : ℕ) → j < i → Names file met n j (get_or cs j 0)

-- where the points are kept: their words, the corners' numbers, and the chains
pub record Rack : Type 0 where
  pub words : List ℕ
  pub corners : List ℕ
  pub heads : List ℕ
  pub links : List ℕ

abbrev pub rack : List ℕ → List ℕ → List ℕ → List ℕ → Rack
rack words corners heads links = record { words = words; corners = corners; heads = heads; links = links }

-- the n points met are on the rack, and the first i corners have their numbers
pub record Racked (file : List ℕ) (met : List Three) (w : Rack) (i n : ℕ) : Type 0 where
  pub some : 0 < length w.heads
  pub words_long : 3 * length w.links ≤ length w.words
  pub links_few : length w.links ≤ limits.points
  pub count : n ≡ length met
  pub within : n ≤ length w.links
  pub kept : Kept met n w.words
  pub headed : Headed (length w.heads) met n w.heads
  pub linked : Linked (length w.heads) met n w.links
  pub named : Named file met n i w.corners

-- those are the points of the first i corners
abbrev pub RackedTo : List ℕ → Rack → ℕ → ℕ → Type 0
RackedTo file w i n = Racked file (met_by file i) w i n

pub record SettleRoom (file : List ℕ) (w : Rack) (at i n : ℕ) : Type 0 where
  pub racked : RackedTo file w i n
  pub place : at ≡ corner_place i
  pub inside : at + 12 ≤ length file
  pub room : i < length w.corners

unfoldable pub Settled : List ℕ → Rack → ℕ → Option ℕ → Type 0
Settled file w i (Some n) = RackedTo file w i n
Settled file w i None = length w.links < length (met_by file i)

pub record FacetRoom (file : List ℕ) (w : Rack) (at i n : ℕ) : Type 0 where
  pub racked : RackedTo file w i n
  pub facet : ℕ
  pub few : facet < limits.triangles
  pub first : i ≡ 3 * facet
  pub place : at ≡ front + facet_bytes * facet + 12
  pub inside : at + 36 ≤ length file
  pub room : i + 3 ≤ length w.corners
