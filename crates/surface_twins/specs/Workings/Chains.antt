-- Half-edges chained in buckets, numbered from 1, where 0 ends a chain; and what pairing one more takes and leaves.
use Rattle.std.specs.Prelude.{◌≡◌, Bool, true, false, not, List, ℕ, zero, suc, ◌+◌, ◌-◌, ◌*◌, ◌/◌, ◌%◌, ◌≤◌, ◌<◌, eqb, ltb, length, get_or, set, None}
use Rattle.surface_rules.specs.Smallest.{least}
use Rattle.surface_rules.specs.Edges.{following, start_of, end_of, goes, twice, repeats}
use Rattle.surface_twins.specs.declared.Met.{Met}
use Rattle.surface_twins.specs.declared.Met.TheVariants.{Twin, Like, Nothing}
use Rattle.surface_twins.specs.Workings.Turns.{open_mark, turn_by, stops, Room}

-- ---- buckets

-- what is added to a point's number
abbrev pub spread : ℕ
spread = 1087

-- of so many buckets, that of the half-edges between u and v, either way: any function would do that takes them alike
unfoldable pub bucket_of : ℕ → ℕ → ℕ → ℕ
bucket_of size u v = (u + spread) * (v + spread) / 32 % size

-- the bucket of half-edge k
unfoldable pub home : ℕ → List ℕ → ℕ → ℕ
home size corners k = bucket_of size (start_of corners k) (end_of corners k)

-- k is of bucket b
unfoldable pub in_bucket : ℕ → List ℕ → ℕ → ℕ → Bool
in_bucket size corners b k = eqb (home size corners k) b

-- ---- chains

abbrev pub pick : Bool → ℕ → ℕ → ℕ
pick true a b = a
pick false a b = b

-- one more than the greatest index below n at which p holds; 0 where there is none
unfoldable pub top : (ℕ → Bool) → ℕ → ℕ
top p zero = 0
top p (suc n) = let rest = top p n in pick (p n) (suc n) rest

-- each bucket has the last of its own below n
unfoldable pub Headed : ℕ → List ℕ → ℕ → List ℕ → Type 0
Headed size corners n heads = (b : ℕ) → b < size → get_or heads b 0 ≡ top (in_bucket size corners b) n

-- each half-edge below n has the one before it in its bucket
unfoldable pub Linked : ℕ → List ℕ → ℕ → List ℕ → Type 0
Linked size corners n links = (k : ℕ) → k < n → get_or links k 0 ≡ top (in_bucket size corners (home size corners k)) k

-- and its end
unfoldable pub Ended : List ℕ → ℕ → List ℕ → Type 0
Ended corners n ends = (k : ℕ) → k < n → get_or ends k 0 ≡ end_of corners k

pub record Chained (size : ℕ) (corners : List ℕ) (n : ℕ) (heads links ends : List ℕ) : Type 0 where
  pub some : 0 < size
  pub headed : Headed size corners n heads
  pub linked : Linked size corners n links
  pub ended : Ended corners n ends
  pub heads_long : length heads ≡ size
  pub links_long : length corners ≤ length links
  pub ends_long : length corners ≤ length ends

-- ---- the walk along a chain

-- the chain from `last` on is the bucket of u and v
pub record MeetRoom (corners links ends : List ℕ) (last u v : ℕ) : Type 0 where
  pub size : ℕ
  pub inside : last ≤ length corners
  pub links_long : length corners ≤ length links
  pub ends_long : length corners ≤ length ends
  pub linked : Linked size corners last links
  pub ended : Ended corners last ends
  pub here : 0 < last → home size corners (last - 1) ≡ bucket_of size u v

-- what a half-edge from u to v meets below n: its twin; one that it repeats; or none that joins u and v
unfoldable pub Meets : List ℕ → ℕ → ℕ → ℕ → Met → Type 0
Meets corners u v n (Twin e) = (e < n) × (goes corners v u e ≡ true)
Meets corners u v n Like = (k : ℕ) × (k < n) × (goes corners u v k ≡ true)
Meets corners u v n Nothing = (k : ℕ) → k < n → (goes corners u v k ≡ false) × (goes corners v u k ≡ false)

-- ---- the table of turns

pub record TurnRoom (met : Met) (h f : ℕ) (table : List ℕ) : Type 0 where
  pub here : h < length table
  pub small : f < open_mark
  pub there : (e : ℕ) → met ≡ Twin e → e < length table

-- h repeats an earlier half-edge, by what it met
abbrev pub refused : Met → List ℕ → Bool
refused (Twin e) table = ltb (get_or table e 0) open_mark
refused Like table = true
refused Nothing table = false

-- the table with h, which f follows, and its twin
abbrev pub turned : Met → ℕ → ℕ → List ℕ → List ℕ
turned (Twin e) h f table = set (set table h (get_or table e 0 - open_mark)) e f
turned Like h f table = table
turned Nothing h f table = set table h (open_mark + f)

pub record TurnDone (met : Met) (h f : ℕ) (table : List ℕ) (done : Bool) (left : List ℕ) : Type 0 where
  pub answer : done ≡ not (refused met table)
  pub laid : done ≡ true → left ≡ turned met h f table

-- each half-edge below n has its turn, twins looked for below n only
unfoldable pub TurnsBelow : List ℕ → ℕ → List ℕ → Type 0
TurnsBelow corners n table = (k : ℕ) → k < n → get_or table k 0 ≡ turn_by (least (goes corners (end_of corners k) (start_of corners k)) n) k

-- ---- the pairing

-- the half-edges below n are paired and chained, and the pairing did not stop there
pub record Going (size : ℕ) (corners : List ℕ) (n : ℕ) (heads links ends table : List ℕ) : Type 0 where
  pub room : Room corners table
  pub fresh : least (stops corners) n ≡ None
  pub chained : Chained size corners n heads links ends
  pub turns : TurnsBelow corners n table

-- half-edge h, from u to v and followed by f, is the next
pub record PairRoom (size : ℕ) (corners : List ℕ) (h f u v : ℕ) (heads links ends table : List ℕ) : Type 0 where
  pub going : Going size corners h heads links ends table
  pub edge : h < length corners
  pub proper : twice corners (h / 3) ≡ false
  pub follows : f ≡ following h
  pub start : u ≡ start_of corners h
  pub end : v ≡ end_of corners h

pub record PairDone (size : ℕ) (corners : List ℕ) (h : ℕ) (done : Bool) (heads links ends table : List ℕ) : Type 0 where
  pub answer : done ≡ not (repeats corners h)
  pub going : done ≡ true → Going size corners (h + 1) heads links ends table
