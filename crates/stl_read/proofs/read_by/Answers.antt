-- `read_by` refuses too many points, or hands on the fronts of its scratch.
use native.Mathlib.Omega.{arith}
use Rattle.surface_rules.proofs.Laws.Lists.{as_long}
use Rattle.stl_read.proofs.Laws.Reading.{many_refused}
use Rattle.stl_read.proofs.Laws.Rooms.{taken, too_many, words_in, read_whole}
use Rattle.stl_read.proofs.read_by.Goals as goal

pub overflow_mul-w : goal.overflow_mul-w
overflow_mul-w c = omega (arith, (taken c.requires c.gather.ensures c.in-Some.is).few)

pub slice_bounds-hand_over-end : goal.slice_bounds-hand_over-end
slice_bounds-hand_over-end c = words_in (taken c.requires c.gather.ensures c.in-Some.is)

pub slice_bounds-hand_over-end-2 : goal.slice_bounds-hand_over-end-2
slice_bounds-hand_over-end-2 c = as_long _ _ (words_in (taken c.requires c.gather.ensures c.in-Some.is))

pub returns-in_default : goal.returns-in_default
returns-in_default c = many_refused _ _ _ c.requires.fitting.fits (too_many _ _ c.requires c.gather.ensures c.in_default.is)

pub returns : goal.returns
returns c = read_whole (taken c.requires c.gather.ensures c.in-Some.is) _ _ _ c.hand_over.ensures
