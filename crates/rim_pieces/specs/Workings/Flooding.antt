-- How a piece is flooded from its smallest triangle.
use Rattle.std.specs.Prelude.{◌≡◌, List, ℕ, ◌+◌, ◌/◌, ◌<◌, ◌≤◌, length, get_or, Some, None}
use Rattle.base_limits.specs.Limits as limits
use Rattle.surface_rules.specs.Edges.{Sound, following, twin}
use Rattle.loop_leaders.specs.Workings.Leading.{walked_mark}
use Rattle.rim_pieces.specs.Pieces.{triangle_count, Shares, Joined, Numbered}

-- what stands for a triangle that has no number yet, above every number
abbrev pub none : ℕ
none = 65535

-- the number that a triangle has, or none
abbrev pub label : List ℕ → ℕ → ℕ
label pieces t = get_or pieces t 0

-- how far the flood is: the queue, how many triangles are in it, and the number of each triangle, or none
pub record Flooded : Type 0 where
  pub queue : List ℕ
  pub count : ℕ
  pub pieces : List ℕ

abbrev pub flooded : List ℕ → ℕ → List ℕ → Flooded
flooded queue count pieces = record { queue = queue; count = count; pieces = pieces }

-- the i-th triangle of the queue
abbrev pub queued : Flooded → ℕ → ℕ
queued at i = get_or at.queue i 0

-- and a triangle's number, or none
abbrev pub label_at : Flooded → ℕ → ℕ
label_at at t = label at.pieces t

-- the table leads across every shared edge, and has a mark at each open one, walked or not
pub record Crossing (corners turns : List ℕ) : Type 0 where
  pub sound : Sound corners
  pub few : length corners ≤ limits.corners
  pub long : length corners ≤ length turns
  pub shared : (h g : ℕ) → h < length corners → twin corners h ≡ Some g → get_or turns h 0 ≡ following g
  pub unshared : (h : ℕ) → h < length corners → twin corners h ≡ None → walked_mark ≤ get_or turns h 0

-- The triangles that have a number are those in the queue, none twice. Numbers are at most p. All below `root` have one.
pub record Flood (corners : List ℕ) (root p : ℕ) (at : Flooded) : Type 0 where
  pub queue_long : triangle_count corners ≤ length at.queue
  pub pieces_long : triangle_count corners ≤ length at.pieces
  pub few : p < none
  pub top : (t : ℕ) → t < triangle_count corners → label_at at t ≤ none
  pub within : at.count ≤ triangle_count corners
  pub queued_in : (i : ℕ) → i < at.count → queued at i < triangle_count corners
  pub queued_labelled : (i : ℕ) → i < at.count → label_at at (queued at i) < none
  pub queued_once : (i j : ℕ) → i < at.count → j < at.count → queued at i ≡ queued at j → i ≡ j
  pub labelled_queued : (t : ℕ) → t < triangle_count corners → label_at at t < none → (i : ℕ) × (i < at.count) × (queued at i ≡ t)
  pub most : (t : ℕ) → t < triangle_count corners → label_at at t < none → label_at at t ≤ p
  pub joined : (t u : ℕ) → t < triangle_count corners → u < triangle_count corners → label_at at t < none → label_at at t ≡ label_at at u → Joined corners t u
  pub in_order : (t n : ℕ) → t < triangle_count corners → label_at at t < none → n < label_at at t → (u : ℕ) × (u < t) × (label_at at u ≡ n)
  pub below_root : (t : ℕ) → t < root → label_at at t < none
  pub numbers_given : (n : ℕ) → n < p → (u : ℕ) × (u < root) × (label_at at u ≡ n)

-- every triangle queued before `done` has its number across each edge that it shares
unfoldable pub Closed : List ℕ → ℕ → Flooded → Type 0
Closed corners done at = (i : ℕ) → i < done → (u : ℕ) → Shares corners (queued at i) u → label_at at u ≡ label_at at (queued at i)

-- every triangle queued from `start` on has number p
unfoldable pub Since : ℕ → ℕ → Flooded → Type 0
Since start p at = (i : ℕ) → start ≤ i → i < at.count → label_at at (queued at i) ≡ p

-- numbers and queued triangles stay
pub record Stay (at at' : Flooded) : Type 0 where
  pub more : at.count ≤ at'.count
  pub same_queue : (i : ℕ) → i < at.count → queued at' i ≡ queued at i
  pub same_label : (t : ℕ) → label_at at t < none → label_at at' t ≡ label_at at t

-- the flood of piece p: from `start` on the queue has its triangles, and those before `done` are closed
pub record Flooding (corners : List ℕ) (root p start done : ℕ) (at : Flooded) : Type 0 where
  pub flood : Flood corners root p at
  pub rooted : label_at at root ≡ p
  pub begun : start ≤ done
  pub upto : done ≤ at.count
  pub closed : Closed corners done at
  pub since : Since start p at

-- the first n have no number
pub record Cleared (pieces : List ℕ) (n : ℕ) (pieces' : List ℕ) : Type 0 where
  pub kept : length pieces' ≡ length pieces
  pub clear : (t : ℕ) → t < n → label pieces' t ≡ none

-- ---- one half-edge

-- half-edge h is one of a triangle that has number p
pub record VisitRoom (turns : List ℕ) (h p : ℕ) (at : Flooded) : Type 0 where
  pub corners : List ℕ
  pub root : ℕ
  pub start : ℕ
  pub done : ℕ
  pub crossing : Crossing corners turns
  pub edge : h < length corners
  pub mine : label_at at (h / 3) ≡ p
  pub flooding : Flooding corners root p start done at

-- the triangle across it has a number
pub record Visited (corners : List ℕ) (h root p start done : ℕ) (at at' : Flooded) : Type 0 where
  pub flooding : Flooding corners root p start done at'
  pub stay : Stay at at'
  pub across : (g : ℕ) → twin corners h ≡ Some g → label_at at' (g / 3) < none

abbrev pub Visits : List ℕ → ℕ → ℕ → Flooded → Flooded → Type 0
Visits turns h p at at' =
    (corners : List ℕ) (root start done : ℕ) → Crossing corners turns → h < length corners → label_at at (h / 3) ≡ p
    → Flooding corners root p start done at → Visited corners h root p start done at at'

-- ---- one triangle

pub record AroundRoom (turns : List ℕ) (t p : ℕ) (at : Flooded) : Type 0 where
  pub corners : List ℕ
  pub root : ℕ
  pub start : ℕ
  pub done : ℕ
  pub crossing : Crossing corners turns
  pub next : done < at.count
  pub here : queued at done ≡ t
  pub flooding : Flooding corners root p start done at

-- one more is closed
abbrev pub Arounds : List ℕ → ℕ → ℕ → Flooded → Flooded → Type 0
Arounds turns t p at at' =
    (corners : List ℕ) (root start done : ℕ) → Crossing corners turns → done < at.count → queued at done ≡ t
    → Flooding corners root p start done at → Flooding corners root p start (done + 1) at'

-- ---- one piece

pub record SpreadRoom (turns : List ℕ) (from p : ℕ) (at : Flooded) : Type 0 where
  pub corners : List ℕ
  pub root : ℕ
  pub crossing : Crossing corners turns
  pub flooding : Flooding corners root p from from at

abbrev pub Spreads : List ℕ → ℕ → ℕ → Flooded → Flooded → Type 0
Spreads turns from p at at' =
    (corners : List ℕ) (root : ℕ) → Crossing corners turns → Flooding corners root p from from at
    → Flooding corners root p from at'.count at'

-- ---- all pieces

-- p pieces are flooded, with all triangles below t
pub record Between (corners : List ℕ) (t p : ℕ) (at : Flooded) : Type 0 where
  pub flood : Flood corners t p at
  pub within : t ≤ triangle_count corners
  pub no_more : p ≤ t
  pub smaller : (u : ℕ) → u < triangle_count corners → label_at at u < none → label_at at u < p
  pub closed : Closed corners at.count at

pub record NumberRoom (corners turns queue pieces : List ℕ) : Type 0 where
  pub crossing : Crossing corners turns
  pub queue_long : triangle_count corners ≤ length queue
  pub pieces_long : triangle_count corners ≤ length pieces

-- every triangle has the number of its piece, and there are so many pieces
pub record Numbers (corners : List ℕ) (count : ℕ) (pieces : List ℕ) : Type 0 where
  pub numbered : Numbered corners pieces
  pub below : (t : ℕ) → t < triangle_count corners → label pieces t < count
  pub few : count ≤ triangle_count corners
  pub all_given : (n : ℕ) → n < count → (t : ℕ) × (t < triangle_count corners) × (label pieces t ≡ n)
