-- `multiply` has the products of every position before i in the strips and in the row, and no weight there but nought for the side.
use native.Mathlib.Omega.{arith}
use Rattle.cover_column.specs.Workings.Columns.{product_of}
use Rattle.cover_column.proofs.Laws.Columns.{multiplying_begins, multiplying_more, multiplied}
use Rattle.cover_column.proofs.Laws.Copies.{copying_begins, copying_more, copied}
use Rattle.cover_column.proofs.multiply.Goals as goal

pub loop-i-init : goal.loop-i-init
loop-i-init c = (multiplying_begins c.requires, copying_begins c.requires c.row_of-at.ensures)

pub loop-i-preserved : goal.loop-i-preserved
unfolding product_of
loop-i-preserved c =
    let p = c.loop-i.invariant in
    (multiplying_more p.0 c.loop-i-test.true, copying_more p.1 c.loop-i-test.true)

pub returns : goal.returns
returns c = let p = c.loop-i.invariant in let m = multiplied p.0 (omega arith) c.requires.some in (m, copied p.1 (omega arith) m)
