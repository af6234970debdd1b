-- `wazelpunt_read` tells what `read` answers.
use Rattle.wazelpunt.proofs.Reading.{told_read, refused_read}
use Rattle.wazelpunt.proofs.wazelpunt_read.Goals as goal

pub returns-in-Ok : goal.returns-in-Ok
returns-in-Ok c = told_read _ _ _ _ _ _ c.read.ensures c.in-Ok.is

pub returns-in-Err : goal.returns-in-Err
returns-in-Err c = refused_read _ _ _ _ _ _ c.read.ensures c.in-Err.is c.number.ensures c.place.ensures
