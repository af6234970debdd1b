-- `wazelpunt_patch` tells what `patch` answers.
use Rattle.wazelpunt.proofs.Telling.{told_patch, refused_patch}
use Rattle.wazelpunt.proofs.wazelpunt_patch.Goals as goal

pub returns-in-Ok : goal.returns-in-Ok
returns-in-Ok c = told_patch _ _ _ _ _ _ c.patch.ensures c.in-Ok.is

pub returns-in-Err : goal.returns-in-Err
returns-in-Err c = refused_patch _ _ _ _ _ _ c.patch.ensures c.in-Err.is c.number.ensures c.place.ensures
