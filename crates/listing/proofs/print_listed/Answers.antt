-- `print_listed` prints what can be listed.
use native.Mathlib.Omega.{arith}
use borrow.Author.Rules.{rules}
use Rattle.surface_rules.proofs.Laws.Lists.{as_long}
use Rattle.listing.proofs.print_listed.Goals as goal

pub slice_bounds-print-end-2 : goal.slice_bounds-print-end-2
slice_bounds-print-end-2 g c = as_long _ _ c.requires.rings_in

pub overflow_mul-listed : goal.overflow_mul-listed
overflow_mul-listed g c = omega (arith, c.requires.few)

pub slice_bounds-print-end-3 : goal.slice_bounds-print-end-3
slice_bounds-print-end-3 g c = as_long _ _ c.requires.records_in

pub slice_bounds-print-end-4 : goal.slice_bounds-print-end-4
slice_bounds-print-end-4 g c = as_long _ _ c.requires.patches_in

pub print-requires : goal.print-requires
print-requires g c = record { sheet_text_in_bounds = search rules; listed = c.requires.listed }
