-- `four_of` puts the four digits together.
use Rattle.text_figures.proofs.Laws.Fours.{four_made}
use Rattle.text_figures.proofs.four_of.Goals as goal

pub returns : goal.returns
returns c = four_made _ c.requires
