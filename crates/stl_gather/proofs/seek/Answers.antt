-- `seek` walks the chain of these words from its head, and what it passed has other words. The measure is the place itself, since a chain only goes back.
use mathlib.Core.Path.{sym, ◌∙◌}
use native.Mathlib.Omega.{arith}
use Rattle.stl_gather.proofs.Laws.Walks.{walk_begins, walk_ends, walk_inside, walk_found, walk_more}
use Rattle.stl_gather.proofs.seek.Goals as goal

pub returns-then-last-eq0 : goal.returns-then-last-eq0
returns-then-last-eq0 c = walk_ends (walk_begins c.requires) (omega (arith, c.if-last-eq0.true))

pub returns-then-has_words : goal.returns-then-has_words
returns-then-has_words c = walk_found (walk_begins c.requires) (omega (arith, c.if-last-eq0.false)) (sym c.if-has_words.true ∙ c.has_words.ensures)

pub loop-g-init : goal.loop-g-init
loop-g-init c = walk_more (walk_begins c.requires) (omega (arith, c.if-last-eq0.false)) (sym c.if-has_words.false ∙ c.has_words.ensures)

pub returns-then-has_words-2 : goal.returns-then-has_words-2
returns-then-has_words-2 c = walk_found c.loop-g.invariant c.loop-g-test.true (sym c.if-has_words-2.true ∙ c.has_words-in-loop-g.ensures)

pub loop-g-smaller : goal.loop-g-smaller
loop-g-smaller c = omega (arith, walk_inside c.loop-g.invariant c.loop-g-test.true)

pub loop-g-preserved : goal.loop-g-preserved
loop-g-preserved c = walk_more c.loop-g.invariant c.loop-g-test.true (sym c.if-has_words-2.false ∙ c.has_words-in-loop-g.ensures)

pub returns : goal.returns
returns c = walk_ends c.loop-g.invariant c.loop-g-test.false
