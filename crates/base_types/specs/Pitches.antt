-- "Schoolroom plates are cut on a pitch of 2, 5 or 10 plate units ... Pitch 1 is document 01's rule."
use Rattle.std.specs.Prelude.{ℕ, ◌≡◌, Bool, false, ◌||◌, eqb, Result, Ok, Err}
use Rattle.base_answers.specs.declared.Refusal.{Refusal}
use Rattle.base_answers.specs.declared.Refusal.TheVariants.{NoPitch}
use Rattle.base_types.specs.declared.Pitch.{Pitch}
use Rattle.base_types.specs.declared.Pitch.TheVariants.{One, Two, Five, Ten}

-- how many plate units a pitch has
abbrev pub pitch_of : Pitch → ℕ
pitch_of One = 1
pitch_of Two = 2
pitch_of Five = 5
pitch_of Ten = 10

-- a number that is a pitch: "1, 2, 5 or 10"
unfoldable pub is_pitch : ℕ → Bool
is_pitch n = eqb n 1 || (eqb n 2 || (eqb n 5 || eqb n 10))

-- what a number names: the pitch of so many plate units, or none, which refusal 17 says
abbrev pub Names : ℕ → Result Pitch Refusal → Type 0
Names n (Ok p) = n ≡ pitch_of p
Names n (Err r) = (is_pitch n ≡ false) × (r ≡ NoPitch)
