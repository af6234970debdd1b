-- `word_at` reads four bytes, each below 256, so that their sum fits.
use Rattle.stl_facets.proofs.Laws.{word_is}
use Rattle.stl_facets.proofs.word_at.Goals as goal

pub returns : goal.returns
returns c = search word_is
