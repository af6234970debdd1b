-- `put` writes the sheet.
use Rattle.program_import.proofs.Laws.Put.{text_put}
use Rattle.program_import.proofs.put.Goals as goal

pub returns : goal.returns
returns c = text_put _ c.requires (λ i. (c.type_inv.words i).fits) c.write.ensures c.unwrap_or.ensures
