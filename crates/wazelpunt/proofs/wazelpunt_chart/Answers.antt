-- `wazelpunt_chart` tells what `chart` answers.
use Rattle.wazelpunt.proofs.Telling.{told_chart, refused_chart}
use Rattle.wazelpunt.proofs.wazelpunt_chart.Goals as goal

pub returns-in-Ok : goal.returns-in-Ok
returns-in-Ok c = told_chart _ _ _ _ _ _ c.chart.ensures c.in-Ok.is

pub returns-in-Err : goal.returns-in-Err
returns-in-Err c = refused_chart _ _ _ _ _ _ c.chart.ensures c.in-Err.is c.number.ensures c.place.ensures
