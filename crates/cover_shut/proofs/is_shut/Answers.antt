-- `is_shut` says yes only where no cover may close the loop.
use Rattle.cover_shut.proofs.Laws.Shut.{shut_tells}
use Rattle.cover_shut.proofs.is_shut.Goals as goal

pub returns : goal.returns
returns c = shut_tells c.requires c.may_close.ensures
