-- `list_with` goes over all half-edges, walks a cycle where one leads, and passes over those that do not.
use Rattle.loop_find.proofs.Laws.Through.{through_begins, through_skips, through_room, through_on, through_ends}
use Rattle.loop_find.proofs.list_with.Goals as goal

pub loop-h-init : goal.loop-h-init
loop-h-init c = through_begins c.requires

pub loop-h-preserved-then-turns-h-lt-OPEN : goal.loop-h-preserved-then-turns-h-lt-OPEN
loop-h-preserved-then-turns-h-lt-OPEN c = search (through_skips, c.loop-h.invariant, c.requires)

pub list_cycle-at-requires : goal.list_cycle-at-requires
list_cycle-at-requires c = search (through_room, c.loop-h.invariant, c.requires, c.loop-h-test)

pub loop-h-preserved : goal.loop-h-preserved
loop-h-preserved c =
    through_on c.requires c.loop-h.invariant c.loop-h-test.true (search) c.list_cycle-at.ensures
    (record {
      turns_same = search c.list_cycle-at.auto;
      path_same = search c.list_cycle-at.auto;
      places_same = search c.list_cycle-at.auto;
      rings_same = search c.list_cycle-at.auto;
      lengths_same = search c.list_cycle-at.auto;
      firsts_same = search c.list_cycle-at.auto;
    })

pub returns-clause-lists_loops : goal.returns-clause-lists_loops
returns-clause-lists_loops c = through_ends c.requires c.loop-h.invariant c.loop-h-test.false
