-- `all_on_grid` keeps in `all` whether nothing was met so far.
use Rattle.std.proofs.Common.{sym, ◌∙◌, rules}
use Rattle.surface_rules.proofs.Laws.Passes.{all_none, all_more, all_end}
use Rattle.check_words.proofs.Laws.Words.{off_grid_is}
use Rattle.check_words.proofs.all_on_grid.Goals as goal

pub loop-word-init : goal.loop-word-init
loop-word-init c = λ p e. all_none _

pub loop-word-preserved : goal.loop-word-preserved
loop-word-preserved c = λ p e. all_more _ _ _ _ (c.loop-word.invariant p e) (c.is_off.ensures p e ∙ sym (off_grid_is _ _ _))

pub returns : goal.returns
returns c = all_end _ _ _ _ (c.loop-word.invariant _ c.end_of-end.ensures) (search rules)
