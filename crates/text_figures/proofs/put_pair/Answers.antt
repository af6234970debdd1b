-- `put_pair` sets two bytes, one behind the other.
use Rattle.text_figures.proofs.Laws.Spelling.{lay_pair}
use Rattle.text_figures.proofs.put_pair.Goals as goal

pub returns : goal.returns
returns c = search lay_pair
