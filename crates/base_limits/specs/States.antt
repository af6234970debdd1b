-- The numbers of a loop's states, as the type `State` of `base_types` has them. No number stands here.
use Rattle.std.specs.Prelude.{ℕ}
use Rattle.base_types.specs.declared.TheConstants.State as state_type

abbrev pub patched : ℕ
patched = state_type.PATCHED

abbrev pub long : ℕ
long = state_type.LONG

abbrev pub left_open : ℕ
left_open = state_type.OPEN

abbrev pub rim : ℕ
rim = state_type.RIM
