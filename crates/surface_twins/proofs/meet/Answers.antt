-- `meet` walks the chain of u and v from its head, and what it passed joins them neither way. The measure is the place itself, since a chain only goes back.
use Rattle.surface_twins.proofs.Laws.Walks.{walk_begins, walk_ends, walk_twin, walk_like, walk_less, walk_more}
use Rattle.surface_twins.proofs.meet.Goals as goal
use Rattle.surface_twins.proofs.meet.Goals.{else-corners-e-via-then-corners-e+else-ends-e, else-corners-e-via-else-corners-e}
use Rattle.surface_twins.proofs.meet.Goals.{else-corners-e-2-via-then-corners-e-2+else-ends-e-2, else-corners-e-2-via-else-corners-e-2}

pub loop-g-init : goal.loop-g-init
loop-g-init c = walk_begins c.requires

pub returns-then-ends-e : goal.returns-then-ends-e
returns-then-ends-e c = walk_twin c.loop-g.invariant c.loop-g-test.true c.if-corners-e.true c.if-ends-e.true

pub returns-then-ends-e-2 : goal.returns-then-ends-e-2
returns-then-ends-e-2 c = walk_like c.loop-g.invariant c.loop-g-test.true c.if-corners-e-2.true c.if-ends-e-2.true

pub loop-g-smaller : goal.loop-g-smaller
loop-g-smaller c = walk_less c.loop-g.invariant c.loop-g-test.true

pub loop-g-preserved : goal.loop-g-preserved
loop-g-preserved c =
    walk_more c.loop-g.invariant c.loop-g-test.true
    (λ p q. elim c.else-corners-e.branch [ else-corners-e-via-then-corners-e+else-ends-e w ↦ w.if-ends-e.false q | else-corners-e-via-else-corners-e w ↦ w.if-corners-e.false p ])
    (λ p q. elim c.else-corners-e-2.branch [ else-corners-e-2-via-then-corners-e-2+else-ends-e-2 w ↦ w.if-ends-e-2.false q | else-corners-e-2-via-else-corners-e-2 w ↦ w.if-corners-e-2.false p ])

pub returns : goal.returns
returns c = walk_ends c.loop-g.invariant c.loop-g-test.false
