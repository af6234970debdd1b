-- `lay_entry` writes two numbers one after the other.
use Rattle.chart_rules.proofs.Laws.Reading.{two_laid}
use Rattle.chart_rules.proofs.lay_entry.Goals as goal

pub returns : goal.returns
returns c = search two_laid
