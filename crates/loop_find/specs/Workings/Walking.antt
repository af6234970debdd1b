-- What holds while the code walks, and what is left of the table of turns.
use Rattle.std.specs.Prelude.{◌≡◌, Bool, true, false, ◌||◌, List, [], ◌∷◌, ℕ, suc, ◌+◌, ◌/◌, ◌≤◌, ◌<◌, eqb, length, get_or, Option, Some, None}
use Rattle.base_limits.specs.Limits as limits
use Rattle.surface_rules.specs.Edges.{Sound, following, twin}
use Rattle.surface_twins.specs.Workings.Turns.{open_mark}
use Rattle.loop_rules.specs.Loops.{leads, loops_below}
use Rattle.loop_rules.proofs.Laws.Surfaces.{edges_below}
use Rattle.loop_cut.specs.declared.Listed.{Listed}
use Rattle.loop_cut.specs.Workings.Growing.{Ledger, ledger, ListsIn}
use Rattle.loop_leaders.specs.Workings.Leading.{walked_mark}

-- ---- the table of turns, in which walked edges are marked

-- e is one of the list
unfoldable pub holds : ℕ → List ℕ → Bool
holds e [] = false
holds e (x ∷ l) = eqb e x || holds e l

-- the turn from e, or the mark of an open edge, walked or not
abbrev pub turn_now : Option ℕ → Bool → ℕ → ℕ
turn_now (Some g) w e = following g
turn_now None true e = walked_mark
turn_now None false e = open_mark + following e

-- the table has every half-edge's turn, once the edges `walked` were walked
unfoldable pub Turned : List ℕ → List ℕ → List ℕ → Type 0
Turned corners walked turns = (e : ℕ) → e < length corners → get_or turns e 0 ≡ turn_now (twin corners e) (holds e walked) e

-- some edges were walked, and the table still has every turn
abbrev pub KeepsTurns : List ℕ → List ℕ → Type 0
KeepsTurns corners turns = (walked : List ℕ) × Turned corners walked turns

-- ---- the cycles

-- what is lent for the walk: the table of turns, the path with the places of its points, and where the loops are listed
pub record Walk : Type 0 where
  pub turns : List ℕ
  pub path : List ℕ
  pub places : List ℕ
  pub ledger : Ledger

abbrev pub walk : List ℕ → List ℕ → List ℕ → List ℕ → List ℕ → List ℕ → Walk
walk turns path places rings lengths firsts = record { turns = turns; path = path; places = places; ledger = ledger rings lengths firsts }

-- what all cycles ask for
pub record Room (corners : List ℕ) (w : Walk) : Type 0 where
  pub sound : Sound corners
  pub few : length corners ≤ limits.corners
  pub named : (i : ℕ) → i < length corners → get_or corners i 0 < length w.places
  pub turns_long : length corners ≤ length w.turns
  pub path_long : length corners ≤ length w.path
  pub rings_long : length corners ≤ length w.ledger.rings
  pub lengths_long : length corners / 3 ≤ length w.ledger.lengths
  pub firsts_long : length corners / 3 ≤ length w.ledger.firsts

-- h is the first edge of a cycle, all smaller cycles were walked, and their loops are listed
pub record CycleRoom (corners : List ℕ) (h : ℕ) (w : Walk) (from : Listed) : Type 0 where
  pub room : Room corners w
  pub edge : h < length corners
  pub leading : leads corners h ≡ true
  pub turned : Turned corners (edges_below corners h) w.turns
  pub no_path : from.path ≡ 0
  pub lists : ListsIn corners (loops_below corners h) w.ledger from w.ledger

pub record CycleListed (corners : List ℕ) (h : ℕ) (w : Ledger) (turns' : List ℕ) (r : Listed) (w' : Ledger) : Type 0 where
  pub turned : Turned corners (edges_below corners (suc h)) turns'
  pub no_path : r.path ≡ 0
  pub lists : ListsIn corners (loops_below corners (suc h)) w r w'
