-- `wazelpunt_write` tells what `write` answers.
use Rattle.wazelpunt.proofs.Reading.{told_write}
use Rattle.wazelpunt.proofs.wazelpunt_write.Goals as goal

pub returns : goal.returns
returns c = told_write _ _ c.tell_bytes.ensures.told c.tell_bytes.ensures.counted c.write-done.ensures
