-- The loops of a piece that are no rims: those that touch its rim, and behind them the others.
use Rattle.std.specs.Prelude.{◌≡◌, Bool, true, false, not, ◌&&◌, List, ◌++◌, ℕ, ◌+◌, ◌*◌, ◌<◌, ◌≤◌, eqb, ℤ, length, get_or}
use Rattle.base_limits.specs.Limits as limits
use Rattle.loop_rules.specs.Loops.{loops}
use Rattle.fill_fates.specs.Course.{ring_list}
use Rattle.fill_scratch.specs.Workings.Rings.{Loops}
use Rattle.rim_rules.specs.Rims.{piece_at, is_rim}
use Rattle.chart_rules.specs.declared.Entry.{Entry}
use Rattle.chart_rules.specs.Report.{ring_at, touches, of_kind}
use Rattle.chart_lay.specs.Workings.Coast.{Coast}
use Rattle.chart_lay.specs.Workings.Chaining.{First}
use Rattle.chart_lay.specs.Workings.Locating.{start_at}
use Rattle.chart_lay.specs.Workings.Stamping.{any_stamp}
use Rattle.chart_lay.specs.Workings.Entering.{Enters}

-- loop l is the rim of piece p, or another loop of it
abbrev pub is_rim_of : List ℤ → List ℕ → ℕ → ℕ → Bool
is_rim_of grid corners p l = eqb (piece_at corners l) p && is_rim grid corners l

abbrev pub is_other_of : List ℤ → List ℕ → ℕ → ℕ → Bool
is_other_of grid corners p l = eqb (piece_at corners l) p && not (is_rim grid corners l)

-- the loops of a surface with their rings, where each begins, and for each that is no rim the next such of its piece
pub record Chained (grid : List ℤ) (corners : List ℕ) (coast : Coast) : Type 0 where
  pub few : length corners ≤ limits.corners
  pub listed : Loops grid corners (ring_list corners) coast.rings coast.lengths
  pub starts_long : length (loops corners) ≤ length coast.starts
  pub starts_are : (l : ℕ) → l < length (loops corners) → get_or coast.starts l 0 ≡ start_at (ring_list corners) l
  pub links_long : length (loops corners) ≤ length coast.links
  pub links_are : (l : ℕ) → l < length (loops corners) → is_rim grid corners l ≡ false
      → First (is_other_of grid corners (piece_at corners l)) (l + 1) (length (loops corners)) (get_or coast.links l 0)

-- piece p of it, with the first of its other loops; those of them that touch its rim have a stamped vertex, and only those
pub record Others (grid : List ℤ) (corners : List ℕ) (p : ℕ) (coast : Coast) (stamps : List ℕ) (head stamp : ℕ) : Type 0 where
  pub chained : Chained grid corners coast
  pub head_is : First (is_other_of grid corners p) 0 (length (loops corners)) head
  pub stamps_long : limits.points ≤ length stamps
  pub told : (l : ℕ) → l < length (loops corners) → is_other_of grid corners p l ≡ true → any_stamp (ring_at corners l) stamps stamp ≡ touches grid corners l

-- its tide pools, and then its lakes
abbrev pub others_of : List ℤ → List ℕ → ℕ → List Entry
others_of grid corners p = of_kind grid corners p 2 ++ of_kind grid corners p 3

-- such a piece, and room for these and for keeping the lakes
pub record OthersRoom (coast : Coast) (stamps : List ℕ) (head : ℕ) (lakes report : List ℕ) (stamp from : ℕ) : Type 0 where
  pub grid : List ℤ
  pub corners : List ℕ
  pub p : ℕ
  pub others : Others grid corners p coast stamps head stamp
  pub lakes_long : length (loops corners) ≤ length lakes
  pub room : 2 * (from + length (others_of grid corners p)) ≤ length report

-- they were laid, whichever piece it is
abbrev pub OthersLaid : Coast → List ℕ → ℕ → List ℕ → ℕ → ℕ → ℕ → List ℕ → Type 0
OthersLaid coast stamps head report stamp from r report' =
    (grid : List ℤ) (corners : List ℕ) (p : ℕ) → Others grid corners p coast stamps head stamp
    → Enters from (others_of grid corners p) report r report'
