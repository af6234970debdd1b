-- `wazelpunt_read_set` tells what `read_set` answers.
use Rattle.wazelpunt.proofs.Reading.{told_set, refused_set}
use Rattle.wazelpunt.proofs.wazelpunt_read_set.Goals as goal

pub returns-in-Ok : goal.returns-in-Ok
returns-in-Ok c = told_set _ _ _ _ _ _ _ c.read_set.ensures c.in-Ok.is

pub returns-in-Err : goal.returns-in-Err
returns-in-Err c = refused_set _ _ _ _ _ _ _ c.read_set.ensures c.in-Err.is c.number.ensures c.place.ensures
