-- Where the grid ends, by the bits of floats.
use Rattle.std.specs.Prelude.{ℕ, ◌+◌, ◌-◌, ◌*◌, ◌/◌, ◌%◌, ◌^◌}
use Rattle.base_types.specs.Pitches.{pitch_of}
use Rattle.base_types.specs.declared.Pitch.{Pitch}
use Rattle.base_limits.specs.Limits.{greatest}

-- which multiple of the pitch is the last on the grid
abbrev pub last_of : Pitch → ℕ
last_of p = greatest / pitch_of p

-- 1 where it is an even one, to which the middle behind it still goes
abbrev pub even_of : Pitch → ℕ
even_of p = 1 - last_of p % 2

-- the bits of the number c / 2, which lies from 2^14 to 2^15
abbrev halves : ℕ → ℕ
halves c = 140 * 2 ^ 23 + c * 2 ^ 8

-- the bits of the first size that is too far: of the middle behind the last multiple, or of the float after it
unfoldable pub end_of : Pitch → ℕ
end_of p = halves ((2 * last_of p + 1) * pitch_of p) + even_of p
