-- When a count of words or corners is one that a surface takes.
use Rattle.std.specs.Prelude.{ℕ, ◌%◌, Bool, ◌&&◌, eqb, leb}

-- a multiple of 3, and at most `most`
abbrev pub threes : ℕ → ℕ → Bool
threes most n = eqb (n % 3) 0 && leb n most
