-- `main`: what was taken up is patched, and what is left of it can be listed.
use native.Mathlib.Omega.{arith}
use Rattle.program_list.proofs.Laws.Left.{lists_listed}
use Rattle.listing.proofs.main.Goals as goal

pub list_taken-listed-requires : goal.list_taken-listed-requires
list_taken-listed-requires c = ((_, c.take_up-taken.ensures), record { corners_full = omega (arith, c.take_up-taken.auto); turns_full = omega (arith, c.take_up-taken.auto) })

pub print_listed-requires : goal.print_listed-requires
print_listed-requires c =
    let t = c.take_up-taken.ensures in
    let h = lists_listed (c.in-Ok.ensures t.bytes _ t.takes) in
    record { rings_in = h.rings_in; records_in = h.records_in; patches_in = h.patches_in; few = omega (arith, h.records_in, c.list_taken-listed.auto); listed = h.listed }
