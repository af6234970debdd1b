-- What is left when the four were tried is no pitch.
use Rattle.base_types.proofs.Laws.Pitches.{pitch_none}
use Rattle.std.proofs.Common.{refl}
use Rattle.base_types.proofs.PitchTryFromU32.try_from.Goals as goal

pub returns-in_default : goal.returns-in_default
returns-in_default c = (search pitch_none, refl)
