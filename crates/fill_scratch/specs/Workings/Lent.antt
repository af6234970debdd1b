-- The tray that the code passes on, as the lists on it.
use Rattle.std.specs.Prelude.{◌≡◌, length}
use Rattle.cover_bars.specs.Workings.Lent.{Held}
use Rattle.fill_scratch.specs.Workings.Tray as lists
use Rattle.fill_scratch.specs.declared.Tray.{Tray}

abbrev pub trayed : Tray → lists.Tray
trayed t = lists.tray t.chains.heads t.chains.links.now t.chains.ends.now t.bench.stamps t.bench.rows t.table.now

-- it still holds the same slices, as long as before
abbrev pub Same : Tray → Tray → Type 0
Same a b = Held a.chains b.chains × (b.table.ghost_name ≡ a.table.ghost_name) × (length b.table.now ≡ length a.table.now)
