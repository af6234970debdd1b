-- The entries of one piece.
use Rattle.std.specs.Prelude.{List, ℕ, ◌+◌, ◌*◌, ◌<◌, ◌≤◌, ℤ, length, get_or}
use Rattle.base_limits.specs.Limits as limits
use Rattle.loop_rules.specs.Loops.{loops}
use Rattle.chart_rules.specs.Report.{entries_of}
use Rattle.chart_lay.specs.Workings.Coast.{Coast}
use Rattle.chart_lay.specs.Workings.Chaining.{First}
use Rattle.chart_lay.specs.Workings.Entering.{Enters}
use Rattle.chart_lay.specs.Workings.Others.{is_rim_of, is_other_of, Chained}

-- no stamp is above p: those that there are, are of the pieces before it
abbrev pub Fresh : ℕ → List ℕ → Type 0
Fresh p stamps = (v : ℕ) → get_or stamps v 0 ≤ p

-- piece p of a surface, with its rim and the first of its other loops
pub record Piece (grid : List ℤ) (corners : List ℕ) (coast : Coast) (rim head p : ℕ) : Type 0 where
  pub chained : Chained grid corners coast
  pub rim_is : First (is_rim_of grid corners p) 0 (length (loops corners)) rim
  pub head_is : First (is_other_of grid corners p) 0 (length (loops corners)) head

-- and room for its entries
pub record PieceRoom (coast : Coast) (rim head : ℕ) (stamps lakes report : List ℕ) (p at : ℕ) : Type 0 where
  pub grid : List ℤ
  pub corners : List ℕ
  pub piece : Piece grid corners coast rim head p
  pub few : p < limits.triangles
  pub stamps_long : limits.points ≤ length stamps
  pub fresh : Fresh p stamps
  pub lakes_long : length (loops corners) ≤ length lakes
  pub room : 2 * (at + length (entries_of grid corners p)) ≤ length report

-- they were laid, whichever surface it is, and the stamps are fresh for the next piece
pub record PieceLaid (coast : Coast) (rim head : ℕ) (report : List ℕ) (p at r : ℕ) (stamps' report' : List ℕ) : Type 0 where
  pub told : (grid : List ℤ) (corners : List ℕ) → Piece grid corners coast rim head p → Enters at (entries_of grid corners p) report r report'
  pub fresh : Fresh (p + 1) stamps'
