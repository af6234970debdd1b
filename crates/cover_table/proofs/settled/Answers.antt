-- `settled` is far where the bar is set, and else what it was.
use Rattle.cover_table.proofs.Laws.Offers.{settled_barred, settled_free}
use mathlib.Core.Path.{sym, ◌∙◌}
use Rattle.cover_table.proofs.settled.Goals as goal

pub returns-then-is_set : goal.returns-then-is_set
returns-then-is_set c = settled_barred _ _ (sym c.is_set.ensures ∙ c.if-is_set.true)

pub returns-else-is_set : goal.returns-else-is_set
returns-else-is_set c = settled_free _ _ (sym c.is_set.ensures ∙ c.if-is_set.false)
