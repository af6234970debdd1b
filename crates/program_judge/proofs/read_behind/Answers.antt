-- `read_behind` counts the lines of the set on after the sheet's last.
use Rattle.program_judge.proofs.Laws.Takes.{points_few, triangles_few, set_unread, set_read_lem}
use Rattle.program_judge.proofs.read_behind.Goals as goal

pub last_line-last-requires : goal.last_line-last-requires
last_line-last-requires c = (search points_few, search triangles_few)

pub returns-in-Err : goal.returns-in-Err
returns-in-Err c = search set_unread

pub returns-in-Ok : goal.returns-in-Ok
returns-in-Ok c = search set_read_lem
