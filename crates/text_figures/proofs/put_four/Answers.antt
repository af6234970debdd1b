-- `put_four` sets four bytes, one behind the other.
use Rattle.text_figures.proofs.Laws.Spelling.{lay_four}
use Rattle.text_figures.proofs.put_four.Goals as goal

pub returns : goal.returns
returns c = search lay_four
