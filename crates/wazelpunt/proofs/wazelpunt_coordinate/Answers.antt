-- `wazelpunt_coordinate` tells 17 for a number that is no pitch, and hands on one that is.
use Rattle.wazelpunt.proofs.Telling.{tell_at, tell_none}
use Rattle.wazelpunt.proofs.wazelpunt_coordinate.Goals as goal

pub returns-in-Ok : goal.returns-in-Ok
returns-in-Ok c = tell_at _ _ c.try_from.ensures _ c.in-Ok.is c.tell.ensures

pub returns-in-Err : goal.returns-in-Err
returns-in-Err c = tell_none _ _ c.try_from.ensures _ c.in-Err.is c.number.ensures
