-- `text_bytes` adds up what the counts, the lines and the corners' digits take; the sum is far below what a `usize` holds.
use Prim.Native.Nat.{◌/◌, ◌≤◌}
use native.Mathlib.Omega.{arith}
use lib.ListN.{length}
use Rattle.text_digits.proofs.Laws.Sizes.{size_most}
use Rattle.text_line.proofs.Laws.Sizes.{digits_few, needed_sum}
use Rattle.text_line.proofs.text_bytes.Goals as goal
use Rattle.text_line.proofs.text_bytes.Goals.{After-size_of-2}

-- the counts have few digits
few : (c : After-size_of-2) → (c.size_of.result ≤ 5) × (c.size_of-2.result ≤ 5)
few c = (
  omega (arith, c.size_of.ensures, size_most c.args.points (omega (arith, c.requires))),
  omega (arith, c.size_of-2.ensures, size_most (length c.args.corners.now / 3) (omega (arith, c.requires))),
)

pub overflow_add-sizes : goal.overflow_add-sizes
overflow_add-sizes c = omega (arith, few (goal.at.overflow_add-sizes c).After-size_of-2)

pub overflow_add-result : goal.overflow_add-result
overflow_add-result c = omega (arith, few (goal.at.overflow_add-result c).After-size_of-2)

pub overflow_add-result-2 : goal.overflow_add-result-2
overflow_add-result-2 c = omega (arith, few (goal.at.overflow_add-result-2 c).After-size_of-2, c.requires)

pub overflow_add-result-3 : goal.overflow_add-result-3
overflow_add-result-3 c = omega (arith, few (goal.at.overflow_add-result-3 c).After-size_of-2, c.requires)

pub overflow_add-result-4 : goal.overflow_add-result-4
overflow_add-result-4 c = omega (arith, few (goal.at.overflow_add-result-4 c).After-size_of-2, c.corner_digits.ensures, digits_few c.args.corners.now c.type_inv.corners, c.requires)

pub returns : goal.returns
returns c = search needed_sum
