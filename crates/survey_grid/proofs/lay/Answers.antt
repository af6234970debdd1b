-- `lay` lays word after word.
use mathlib.Core.Path.{◌∙◌}
use borrow.Author.Rules.{rules}
use Rattle.survey_grid.proofs.Laws.Laying.{laid_none, laid_more, laid_all}
use Rattle.survey_grid.proofs.lay.Goals as goal

pub loop-i-init : goal.loop-i-init
loop-i-init g c pitch right = laid_none _ _ _

pub loop-i-preserved : goal.loop-i-preserved
loop-i-preserved g c pitch right = laid_more _ _ _ _ _ _ (c.loop-i.invariant pitch right) c.loop-i-test.true (search rules) (search rules ∙ right c.loop-i.i _ c.loop-i-test.true c.rule.ensures)

pub returns : goal.returns
returns g c pitch right = laid_all _ _ _ _ _ (c.loop-i.invariant pitch right) c.loop-i-test.false
