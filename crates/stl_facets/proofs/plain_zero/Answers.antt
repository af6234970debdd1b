-- `plain_zero` turns the one word of negative zero.
use Rattle.stl_facets.proofs.Laws.{zero_plain, other_plain}
use Rattle.stl_facets.proofs.plain_zero.Goals as goal

pub returns-then-word-eq0 : goal.returns-then-word-eq0
returns-then-word-eq0 c = search zero_plain

pub returns : goal.returns
returns c = search other_plain
