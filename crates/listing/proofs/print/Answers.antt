-- `print`: what a section leaves is what the next begins with.
use Rattle.std.proofs.Common.{arith, refl}
use Rattle.program_roll.proofs.Laws.Going.{going_begins}
use Rattle.listing.proofs.Laws.Printing.{printing_on, more_less}
use Rattle.listing.proofs.print.Goals as goal

pub loop-going-init : goal.loop-going-init
loop-going-init g c =
    record { same_long = refl; roomy = omega (arith, c.begin-progress.ensures.bytes_bound, c.requires.sheet_text_in_bounds, c.begin-progress.auto.out); going = going_begins c.requires.listed c.begin-progress.ensures.begins }

pub loop-going-smaller-then-is_ok : goal.loop-going-smaller-then-is_ok
loop-going-smaller-then-is_ok g c = more_less c.loop-going.invariant c.fill-progress.ensures c.loop-going-test.true

pub loop-going-preserved-then-is_ok : goal.loop-going-preserved-then-is_ok
loop-going-preserved-then-is_ok g c = printing_on c.loop-going.invariant c.fill-progress.ensures c.fill-progress.auto.out

pub loop-going-preserved : goal.loop-going-preserved
loop-going-preserved g c = printing_on c.loop-going.invariant c.fill-progress.ensures c.fill-progress.auto.out
