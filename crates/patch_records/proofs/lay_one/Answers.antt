-- `lay_one` writes seven numbers one after the other.
use Rattle.patch_records.proofs.Laws.Laying.{seven_laid}
use Rattle.patch_records.proofs.lay_one.Goals as goal

pub returns : goal.returns
returns c = search seven_laid
