-- Products of differences are small, so nothing wraps, and what is turned is the component with its sign.
use mathlib.Core.Path.{◌∙◌}
use Rattle.cover_weight.proofs.Laws.Components.{product_fits, component_fits, component_size}
use Rattle.cover_weight.proofs.component.Goals as goal

pub overflow_mul-p : goal.overflow_mul-p
overflow_mul-p c = product_fits c.args.p c.args.q c.requires.0 c.requires.1

pub overflow_mul-r : goal.overflow_mul-r
overflow_mul-r c = product_fits c.args.r c.args.s c.requires.2 c.requires.3

pub overflow_sub-p : goal.overflow_sub-p
overflow_sub-p c = component_fits c.args.p c.args.q c.args.r c.args.s c.requires

pub returns : goal.returns
returns c = c.unsigned_abs.ensures.value ∙ component_size c.args.p c.args.q c.args.r c.args.s c.requires
