-- The chains of edges keep what is lent to them.
use Rattle.std.specs.Prelude.{◌≡◌, length}
use Rattle.cover_bars.specs.declared.Chains.{Chains}

-- they still hold the same slices, as long as before
abbrev pub Held : Chains → Chains → Type 0
Held a b =
    (b.links.ghost_name ≡ a.links.ghost_name) × (b.ends.ghost_name ≡ a.ends.ghost_name)
    × (length b.links.now ≡ length a.links.now) × (length b.ends.now ≡ length a.ends.now)
