-- Each component is below 2 ^ 33, so three of them add up without wrapping.
use Rattle.cover_weight.proofs.Laws.Components.{two_fit, three_fit, sizes_are}
use Rattle.cover_weight.proofs.sizes.Goals as goal

pub overflow_add-result : goal.overflow_add-result
overflow_add-result c = search two_fit

pub overflow_add-result-2 : goal.overflow_add-result-2
overflow_add-result-2 c = search three_fit

pub returns : goal.returns
returns c = search sizes_are
