-- `wazelpunt_read_stl` tells what `read` answers on a file of facets.
use Rattle.wazelpunt.proofs.Reading.{told_file, refused_file}
use Rattle.wazelpunt.proofs.wazelpunt_read_stl.Goals as goal

pub returns-in-Ok : goal.returns-in-Ok
returns-in-Ok c = told_file _ _ _ c.read.ensures c.in-Ok.is

pub returns-in-Err : goal.returns-in-Err
returns-in-Err c = refused_file _ _ _ c.read.ensures c.in-Err.is c.number.ensures c.place.ensures
