-- `chain` puts the edge in front of the chain of the point it leaves.
use Rattle.cover_bars.proofs.Laws.Chaining.{chain_does}
use Rattle.cover_bars.proofs.chain.Goals as goal

pub returns : goal.returns
returns c = search chain_does
