-- `list` takes the text's sheet up, and patches it.
use native.Mathlib.Omega.{arith}
use Rattle.program_list.proofs.list.Goals as goal

pub list_taken-requires : goal.list_taken-requires
list_taken-requires c = ((c.args.grid.now, c.take_up-taken.ensures.took), record { corners_full = omega (arith, c.take_up-taken.auto); turns_full = omega (arith, c.take_up-taken.auto) })

pub returns : goal.returns
returns c = c.list_taken.ensures _ _ c.take_up-taken.ensures.takes_up
