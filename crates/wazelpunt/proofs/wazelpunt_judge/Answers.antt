-- `wazelpunt_judge` tells what `judge` answers.
use Rattle.wazelpunt.proofs.Telling.{passed_judge, failed_judge, refused_judge}
use Rattle.wazelpunt.proofs.wazelpunt_judge.Goals as goal

pub returns-in-Ok-verdict : goal.returns-in-Ok-verdict
returns-in-Ok-verdict c = passed_judge _ _ _ _ _ _ _ _ c.judge.ensures c.in-Ok.is c.in-Ok-verdict.is

pub returns-in-Err-verdict : goal.returns-in-Err-verdict
returns-in-Err-verdict c = failed_judge _ _ _ _ _ _ _ _ c.judge.ensures c.in-Ok.is c.in-Err-verdict.is c.number.ensures c.place.ensures

pub returns-in-Err : goal.returns-in-Err
returns-in-Err c = refused_judge _ _ _ _ _ _ _ _ c.judge.ensures c.in-Err.is c.number-in-Err.ensures c.place-in-Err.ensures
