-- Each part is at most twice the greatest coordinate, so three of them add up without wrapping.
use Rattle.cover_weight.proofs.Laws.Strides.{two_parts_fit, parts_fit, parts_are}
use Rattle.cover_weight.proofs.extent.Goals as goal

pub overflow_add-result : goal.overflow_add-result
overflow_add-result c = search two_parts_fit

pub overflow_add-result-2 : goal.overflow_add-result-2
overflow_add-result-2 c = search parts_fit

pub returns : goal.returns
returns c = search parts_are
