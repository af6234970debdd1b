-- What a part of a patch set is of a loop: no cover of the loop, a cover with a barred diagonal, or an allowed cover.
use Rattle.std.specs.Prelude.{ℕ, ◌-◌, ◌≡◌, Bool, true, List, length}
use Rattle.cover_rules.specs.Covers as covers
use Rattle.cover_rules.specs.Covers.{Cover, Triangle, Uses}
use Rattle.judge_seat.specs.Workings.Covering.{Covering}
use Rattle.judge_match.specs.declared.Match.{Match}
use Rattle.judge_match.specs.declared.Match.TheVariants.{NoCover, Barred, Allowed}

-- what the set s is of the ring, where these pairs of positions are barred
abbrev pub Matches : List ℕ → (ℕ → ℕ → Bool) → List Triangle → Match → Type 0
Matches ring barred s NoCover = (c : Cover) → Covering ring s c → ⊥
Matches ring barred s Barred =
    (c : Cover) × Covering ring s c × (a : ℕ) × (b : ℕ) × Uses 0 (length ring - 1) c a b × (barred a b ≡ true)
Matches ring barred s Allowed = (c : Cover) × Covering ring s c × covers.Allowed barred 0 (length ring - 1) c
