-- `hear` answers on the inputs what is answered on as much of them as was in the rooms.
use Rattle.program_judge.proofs.Laws.Sheets.{somehow, hears_inputs}
use Rattle.program_judge.proofs.hear.Goals as goal

pub hear_taken-requires : goal.hear_taken-requires
hear_taken-requires c = search somehow

pub returns : goal.returns
returns c = search hears_inputs
