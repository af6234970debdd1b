-- `take_set` has room for whatever a text says.
use mathlib.Core.Path.{refl}
use Rattle.surface_rules.proofs.Laws.Lists.{as_long}
use Rattle.program_judge.proofs.take_set.Goals as goal

pub slice_bounds-read_behind-end : goal.slice_bounds-read_behind-end
slice_bounds-read_behind-end c = search as_long

pub returns : goal.returns
returns c = (
  refl,
  (c.requires.set_text_in_bounds.0, record { states_before = c.args.states.now; parts_before = c.args.set.now; states_full = c.requires.full.0; parts_full = c.requires.full.1; taken = c.read_behind-read.ensures }),
)
