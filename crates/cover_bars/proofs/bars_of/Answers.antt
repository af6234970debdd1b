-- `bars_of` stamps, meets and clears, which leaves the bars.
use Rattle.cover_bars.proofs.Laws.Barring.{bars_room, bars_done}
use Rattle.cover_bars.proofs.bars_of.Goals as goal

pub bars_all-requires : goal.bars_all-requires
bars_all-requires c = let d = c.stamp_ring.ensures in (bars_room c.requires d, d.clear)

pub returns : goal.returns
returns c = search bars_done
