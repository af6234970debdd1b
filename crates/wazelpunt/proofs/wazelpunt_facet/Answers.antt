-- `wazelpunt_facet` lays out the facet that the reader hands out, or changes nothing.
use Rattle.wazelpunt.proofs.Handing.{hand_short, hand_end, hand_given}
use Rattle.wazelpunt.proofs.wazelpunt_facet.Goals as goal

pub returns-then-floats-lt-FLOATS : goal.returns-then-floats-lt-FLOATS
returns-then-floats-lt-FLOATS c = hand_short _ _ _ c.if-floats-lt-FLOATS.true

pub returns-in-None : goal.returns-in-None
returns-in-None c = hand_end _ _ _ c.if-floats-lt-FLOATS.false c.hand_out.ensures c.in-None.is

pub returns-in-Some : goal.returns-in-Some
returns-in-Some c = hand_given _ _ _ c.if-floats-lt-FLOATS.false c.hand_out.ensures c.in-Some.is c.lay.ensures c.move_on.ensures
