-- The table of turns keeps its length, whatever was met.
use mathlib.Core.Path.{◌≡◌, refl, ◌∙◌}
use mathlib.Core.List.{List}
use Prim.Native.Nat.{ℕ, ◌+◌, ◌-◌}
use lib.ListN.{length, get_or, set, length-set}
use Rattle.surface_twins.specs.declared.Met.{Met}
use Rattle.surface_twins.specs.declared.Met.TheVariants.{Twin, Like, Nothing}
use Rattle.surface_twins.specs.Workings.Turns.{open_mark}
use Rattle.surface_twins.specs.Workings.Chains.{turned}

pub turned_length : (met : Met) (h f : ℕ) (table : List ℕ) → length (turned met h f table) ≡ length table
turned_length (Twin e) h f table = length-set (set table h (get_or table e 0 - open_mark)) e f ∙ length-set table h (get_or table e 0 - open_mark)
turned_length Like h f table = refl
turned_length Nothing h f table = length-set table h (open_mark + f)
