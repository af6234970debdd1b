-- `all_on_grid` keeps in `all` whether nothing was met so far.
use mathlib.Core.Path.{◌≡◌}
use mathlib.Core.Bool.{not}
use Rattle.base_types.specs.Pitches.{pitch_of}
use Rattle.base_types.specs.declared.Pitch.{Pitch}
use Rattle.grid_place.specs.Workings.Ends.{end_of}
use Rattle.surface_rules.specs.Smallest.{least, any}
use Rattle.surface_rules.specs.Refusals.{off_grid}
use Rattle.check_words.proofs.all_on_grid.Given as goal

abbrev pub invariant-loop-word : goal.invariant-loop-word
invariant-loop-word l = (p : Pitch) → l.end ≡ end_of p → l.all ≡ not (any (least (off_grid (pitch_of p) l.words) l.word-index))
