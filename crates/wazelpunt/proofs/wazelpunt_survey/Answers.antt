-- `wazelpunt_survey` tells what `survey` answers.
use Rattle.wazelpunt.proofs.Telling.{told_survey, refused_survey}
use Rattle.wazelpunt.proofs.wazelpunt_survey.Goals as goal

pub returns-in-Ok : goal.returns-in-Ok
returns-in-Ok c = told_survey _ _ c.survey.ensures c.in-Ok.is

pub returns-in-Err : goal.returns-in-Err
returns-in-Err c = refused_survey _ _ c.survey.ensures c.in-Err.is c.number.ensures c.place.ensures
