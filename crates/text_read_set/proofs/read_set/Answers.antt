-- `read_set` has scratch for the longest text, so the lent buffers change only once the whole text is read.
use native.Mathlib.Omega.{arith}
use Rattle.surface_rules.proofs.Laws.Lists.{as_long}
use Rattle.text_read_set.proofs.Laws.Deliver.{scratch_room, wrong_line_lem, taken, fault_promised, few_triangles, states_in, corners_inside, delivered}
use Rattle.text_read_set.proofs.read_set.Goals as goal

pub take_in-requires : goal.take_in-requires
take_in-requires c = (omega arith, scratch_room _)

pub overflow_add-result : goal.overflow_add-result
overflow_add-result c = omega (arith, wrong_line_lem _ _ _ _ _ _ _ c.take_in.ensures c.in-Err.is)

pub overflow_mul-c : goal.overflow_mul-c
overflow_mul-c c = omega (arith, few_triangles (taken c.take_in.ensures c.in-Ok.is))

pub slice_bounds-ss-end : goal.slice_bounds-ss-end
slice_bounds-ss-end c = states_in (taken c.take_in.ensures c.in-Ok.is)

pub slice_bounds-hand_over-end : goal.slice_bounds-hand_over-end
slice_bounds-hand_over-end c = as_long _ _ (states_in (taken c.take_in.ensures c.in-Ok.is))

pub slice_bounds-cs-end : goal.slice_bounds-cs-end
slice_bounds-cs-end c = corners_inside (taken c.take_in.ensures c.in-Ok.is)

pub slice_bounds-hand_over-end-2 : goal.slice_bounds-hand_over-end-2
slice_bounds-hand_over-end-2 c = as_long _ _ (corners_inside (taken c.take_in.ensures c.in-Ok.is))

pub returns-in-Err : goal.returns-in-Err
returns-in-Err c = fault_promised _ _ _ _ _ _ _ c.take_in.ensures c.in-Err.is _ _ _

pub returns : goal.returns
returns c = delivered (taken c.take_in.ensures c.in-Ok.is) _ _ _ _ c.hand_over.ensures
