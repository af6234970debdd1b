-- `wazelpunt_size_stl` tells what `sized` answers.
use mathlib.Core.Path.{ap, ◌∙◌}
use Rattle.base_answers.specs.Numbers.{number_of}
use Rattle.wazelpunt.proofs.wazelpunt_size_stl.Goals as goal

pub returns : goal.returns
returns c = c.number.ensures ∙ ap number_of (c.from.ensures ∙ c.sized.ensures)
